-- The facts of globals and segments, one after another.
use Rattle.std.proofs.Common.{◌≡◌, ◌≤◌, ◌<◌, ℕ, zero, suc, ◌+◌, ◌-◌, List, [], ◌∷◌, ◌++◌, length, map, drop, Option, Some, None, refl, sym, ◌∙◌, ap, arith, append_assoc, length-append}
use Rattle.std.specs.Prelude.{slice_get, option_map}
use Rattle.std.proofs.lemmas.List.{append-nil, drop_all, length-map}
use Rattle.std.proofs.lemmas.Option.{slice_get_past}
use Rattle.ctw_form.proofs.Params.{slice_get_right}
use Rattle.ctw_ops.specs.declared.types.Label.{Label}
use Rattle.ctw_ops.specs.Types.{VariableType}
use Rattle.ctw_ops.specs.Tree.{Module, Global, Constant, imported_globals, global_types}
use Rattle.ctw_module.specs.Lookup.{global_inits}
use Rattle.ctw_labels.specs.declared.tag.Tag.{Tag}
use Rattle.ctw_labels.specs.declared.tag.Tag.TheVariants.{At}
use Rattle.ctw_labels.specs.Links.{Fact}
use Rattle.ctw_labels.specs.ModuleLinks.{init_fact, init_facts}
use Rattle.ctw_labels.specs.SitedModule.{globals_from, first_global, sited_globals}
use Rattle.ctw_links.proofs.Lists.{drop_found}

-- ---- the site of a global

globals_length : (n : ℕ) (gs : List (VariableType Label)) → length (globals_from n gs) ≡ length gs
globals_length n [] = refl
globals_length n (g ∷ gs) = ap suc (globals_length (n + 1) gs)

tag_from : (n : ℕ) (gs : List (VariableType Label)) (k : ℕ) → k < length gs → Some (At (n + k)) ≡ option_map (λ g. g.value.tag) (slice_get (globals_from n gs) k)
tag_from n [] k lt = absurd (omega (arith, lt))
tag_from n (g ∷ gs) zero lt = let e : n + 0 ≡ n = omega arith in ap (λ z. Some (At z)) e
tag_from n (g ∷ gs) (suc k) lt = let e : n + suc k ≡ n + 1 + k = omega arith in ap (λ z. Some (At z)) e ∙ tag_from (n + 1) gs k (omega (arith, lt))

pub site_found : (m : Module Label) (n k : ℕ) → n ≡ first_global m → k < length (global_types m) → Some (At (n + k)) ≡ option_map (λ g. g.value.tag) (slice_get (sited_globals m) k)
site_found m n k e lt = ap (λ z. Some (At (z + k))) e ∙ tag_from (first_global m) (global_types m) k lt

pub site_none : (m : Module Label) (k : ℕ) → length (global_types m) ≤ k → None ≡ option_map (λ g. g.value.tag) (slice_get (sited_globals m) k)
site_none m k le = let l = globals_length (first_global m) (global_types m) in sym (ap (option_map (λ g. g.value.tag)) (slice_get_past (sited_globals m) k (omega (arith, l, le))))

-- ---- what a defined global begins as

abbrev pub Begins : Module Label → ℕ → Constant Label → Type 0
Begins m i c = (x : Global Label) × (slice_get m.globals i ≡ Some x) × (x.init ≡ c)

begins_in : (gs : List (Global Label)) (i : ℕ) (c : Constant Label) → slice_get (map (λ g. Some g.init) gs) i ≡ Some (Some c) → (x : Global Label) × (slice_get gs i ≡ Some x) × (x.init ≡ c)
begins_in [] i c e = absurd cc
begins_in (g ∷ gs) zero c e = let q : g.init ≡ c = cc in (g, refl, q)
begins_in (g ∷ gs) (suc i) c e = begins_in gs i c e

not_none : (gs : List (Global Label)) (i : ℕ) → slice_get (map (λ g. Some g.init) gs) i ≡ Some None → ⊥
not_none [] i e = cc
not_none (g ∷ gs) zero e = cc
not_none (g ∷ gs) (suc i) e = not_none gs i e

abbrev no_init : VariableType Label → Option (Constant Label)
no_init t = None

module _ (m : Module Label) (k i : ℕ) (e : k ≡ length (imported_globals m.imports)) where
  defined : slice_get (global_inits m) (k + i) ≡ slice_get (map (λ g. Some g.init) m.globals) i
  defined =
      let I : List (Option (Constant Label)) = map (λ type. None) (imported_globals m.imports) in
      let l = length-map (imported_globals m.imports) no_init in
      let r : k + i - length I ≡ i = omega (arith, l, e) in
      slice_get_right I (map (λ g. Some g.init) m.globals) (k + i) (omega (arith, l, e)) ∙ ap (slice_get (map (λ g. Some g.init) m.globals)) r

  pub begins : (c : Constant Label) → slice_get (global_inits m) (k + i) ≡ Some (Some c) → Begins m i c
  begins c h = begins_in m.globals i c (sym defined ∙ h)

  pub begins_there : slice_get (global_inits m) (k + i) ≡ Some None → ⊥
  begins_there h = not_none m.globals i (sym defined ∙ h)

-- ---- one global more

module _ (m : Module Label) (n i : ℕ) where
  pub init_begins : (told : List (Fact Tag)) → told ++ init_facts (sited_globals m) (n + 0) (drop 0 m.globals) ≡ told ++ init_facts (sited_globals m) n m.globals
  init_begins told = let e : n + 0 ≡ n = omega arith in ap (λ z. told ++ init_facts (sited_globals m) z m.globals) e

  pub init_on : (s : ℕ) (c : Constant Label) (told told' all : List (Fact Tag)) → s ≡ n + i → Begins m i c → told' ≡ told ++ init_fact (sited_globals m) (At s) c → told ++ init_facts (sited_globals m) (n + i) (drop i m.globals) ≡ all
      → told' ++ init_facts (sited_globals m) (n + (i + 1)) (drop (i + 1) m.globals) ≡ all
  init_on s c told told' all q b e h =
      let S = sited_globals m in
      let f : n + (i + 1) ≡ n + i + 1 = omega arith in
      (λ j. e j ++ init_facts S (f j) (drop (i + 1) m.globals))
      ∙ (λ j. (told ++ init_fact S (At (q j)) (sym b.2 j)) ++ init_facts S (n + i + 1) (drop (i + 1) m.globals))
      ∙ append_assoc told (init_fact S (At (n + i)) b.0.init) (init_facts S (n + i + 1) (drop (i + 1) m.globals))
      ∙ ap (λ z. told ++ init_facts S (n + i) z) (sym (drop_found m.globals i b.0 b.1)) ∙ h

  pub init_done : (told all : List (Fact Tag)) → length m.globals ≤ i → told ++ init_facts (sited_globals m) (n + i) (drop i m.globals) ≡ all → told ≡ all
  init_done told all le h = sym (append-nil told) ∙ ap (λ z. told ++ init_facts (sited_globals m) (n + i) z) (sym (drop_all i m.globals le)) ∙ h
