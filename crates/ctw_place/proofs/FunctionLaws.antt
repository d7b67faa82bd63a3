-- The functions of a module under labels, one after another.
use Rattle.std.proofs.Common.{◌≡◌, ◌<◌, ◌≤◌, ◌^◌, ℕ, ◌+◌, List, [], ◌∷◌, ◌++◌, length, map, drop, Some, slice_get, refl, sym, ◌∙◌, ap, subst, arith, length-append, append_assoc, append-nil}
use Rattle.std.proofs.lemmas.List.{drop_all}
use Rattle.ctw_ops.specs.declared.types.Label.{Label}
use Rattle.ctw_ops.specs.Types.{FunctionType}
use Rattle.ctw_ops.specs.Tree.{function_entries, type_named}
use Rattle.ctw_labels.specs.declared.name.SiteName.TheVariants.{Param, Result}
use Rattle.ctw_labels.specs.Numbering.{type_sites}
use Rattle.ctw_labels.specs.Points.{trust_at}
use Rattle.ctw_labels.specs.Placed.{TypeUse, function_uses, use_to, with_use, with_uses}
use Rattle.ctw_labels.specs.SitedModule.{site_count, function_sites, first_global}
use Rattle.ctw_labels.proofs.Contexts.{type_length}
use Rattle.ctw_sites.specs.Heads.{heads_from, heads as heads_of}
use Rattle.ctw_place.specs.declared.variants.Variants.{Variants}
use Rattle.ctw_place.specs.declared.setting.Setting.{Setting}
use Rattle.ctw_place.specs.Settings.{module_of, labels_of, points_of, use_at, names_from}
use Rattle.ctw_place.specs.Variants.{name_in, Holds}
use Rattle.ctw_place.proofs.Drops.{Next, next}
use Rattle.ctw_place.proofs.UseLaws.{uses_append, all_grow}

abbrev Uses : Type 0
Uses = List (TypeUse Label)

module _ (s : Setting) (before : Uses) where
  abbrev left_uses : ℕ → ℕ → List ℕ → Uses
  left_uses f site ys = map (use_to (labels_of s)) (function_uses (module_of s) (points_of s) f site ys)

  abbrev all_uses : Uses
  all_uses = map (use_to (labels_of s)) (function_uses (module_of s) (points_of s) 0 0 (function_entries (module_of s)))

  abbrev name : Uses → ℕ → FunctionType Label → ℕ
  name later = name_in (length (module_of s).types) (with_uses (with_uses before (map (use_to (labels_of s)) (function_uses (module_of s) (points_of s) 0 0 (function_entries (module_of s))))) later)

  -- those from a function on are left
  pub record FunctionsLeft (f site : ℕ) (types heads : List ℕ) (v : Variants) : Type 0 where
    pub firsts : heads ++ heads_from (module_of s) site (drop f (function_entries (module_of s))) ≡ heads_of (module_of s)
    pub sites : site + length (function_sites (module_of s) f (drop f (function_entries (module_of s)))) ≡ first_global (module_of s)
    pub vs : Uses
    pub held : Holds v vs
    pub uses : with_uses vs (left_uses f site (drop f (function_entries (module_of s)))) ≡ with_uses before all_uses
    pub names : (later : Uses) → types ++ names_from (labels_of s) (name later) (module_of s) (points_of s) f site (drop f (function_entries (module_of s))) ≡ names_from (labels_of s) (name later) (module_of s) (points_of s) 0 0 (function_entries (module_of s))

  pub functions_begin : (types heads : List ℕ) (v : Variants) → types ≡ [] → heads ≡ [] → Holds v before → FunctionsLeft 0 0 types heads v
  functions_begin types heads v e q h = record {
    firsts = ap (λ (l : List ℕ). l ++ heads_of (module_of s)) q;
    sites = omega arith;
    vs = before;
    held = h;
    uses = refl;
    names = λ later. ap (λ (l : List ℕ). l ++ names_from (labels_of s) (name later) (module_of s) (points_of s) 0 0 (function_entries (module_of s))) e;
  }

  module _ (f site : ℕ) (types heads : List ℕ) (v : Variants) (h : FunctionsLeft f site types heads v) (y : ℕ) (e : slice_get (function_entries (module_of s)) f ≡ Some y) (lt : f < length (function_entries (module_of s))) where
    n : Next (function_entries (module_of s)) f
    n = next (function_entries (module_of s)) f lt

    is : n.item ≡ y
    is = let q : Some n.item ≡ Some y = sym n.at ∙ e in cc

    here : drop f (function_entries (module_of s)) ≡ y ∷ n.rest
    here = n.here ∙ ap (λ z. z ∷ n.rest) is

    behind : n.rest ≡ drop (f + 1) (function_entries (module_of s))
    behind = sym n.behind

    pub function_room : first_global (module_of s) < 2 ^ 32 → site + site_count (type_named (module_of s) y) < 2 ^ 32
    function_room lt =
        let a = ap (λ z. length (function_sites (module_of s) f z)) here in
        let b = length-append (type_sites (Param f) (Result f) (type_named (module_of s) y)) (function_sites (module_of s) (f + 1) n.rest) in
        let c = type_length (Param f) (Result f) (type_named (module_of s) y) in
        omega (arith, a, b, c, h.sites, lt)

    pub function_few : (t : ℕ) → t + length (with_uses before all_uses) + 1 < 2 ^ 32 → t + length h.vs + 1 < 2 ^ 32
    function_few t lt =
        let a = all_grow h.vs (left_uses f site (drop f (function_entries (module_of s)))) in
        let b = ap length h.uses in
        omega (arith, a, b, lt)

    used : with_uses (with_use h.vs (use_at s y site (trust_at (points_of s) f))) (left_uses (f + 1) (site + site_count (type_named (module_of s) y)) (drop (f + 1) (function_entries (module_of s)))) ≡ with_uses before all_uses
    used =
        ap (λ z. with_uses (with_use h.vs (use_at s y site (trust_at (points_of s) f))) (left_uses (f + 1) (site + site_count (type_named (module_of s) y)) z)) (sym behind)
        ∙ ap (λ z. with_uses h.vs (left_uses f site z)) (sym here) ∙ h.uses

    pub function_on : (index : ℕ) (types' heads' : List ℕ) (w : Variants) → types' ≡ types ++ index ∷ [] → heads' ≡ heads ++ site ∷ [] → Holds w (with_use h.vs (use_at s y site (trust_at (points_of s) f)))
        → ((later : Uses) → index ≡ name_in (length (module_of s).types) (with_uses (with_use h.vs (use_at s y site (trust_at (points_of s) f))) later) y (use_at s y site (trust_at (points_of s) f)).type)
        → FunctionsLeft (f + 1) (site + site_count (type_named (module_of s) y)) types' heads' w
    function_on index types' heads' w et eh held named = record {
      firsts = ap (λ (l : List ℕ). l ++ heads_from (module_of s) (site + site_count (type_named (module_of s) y)) (drop (f + 1) (function_entries (module_of s)))) eh
          ∙ append_assoc heads (site ∷ []) (heads_from (module_of s) (site + site_count (type_named (module_of s) y)) (drop (f + 1) (function_entries (module_of s))))
          ∙ ap (λ z. heads ++ site ∷ heads_from (module_of s) (site + site_count (type_named (module_of s) y)) z) (sym behind)
          ∙ ap (λ z. heads ++ heads_from (module_of s) site z) (sym here) ∙ h.firsts;
      sites =
          let a = ap (λ z. length (function_sites (module_of s) f z)) here in
          let b = length-append (type_sites (Param f) (Result f) (type_named (module_of s) y)) (function_sites (module_of s) (f + 1) n.rest) in
          let c = type_length (Param f) (Result f) (type_named (module_of s) y) in
          let d = ap (λ z. length (function_sites (module_of s) (f + 1) z)) behind in
          omega (arith, a, b, c, d, h.sites);
      vs = with_use h.vs (use_at s y site (trust_at (points_of s) f));
      held = held;
      uses = used;
      names = λ later.
          let rest : Uses = left_uses (f + 1) (site + site_count (type_named (module_of s) y)) (drop (f + 1) (function_entries (module_of s))) in
          let q : index ≡ name later y (use_at s y site (trust_at (points_of s) f)).type =
          named (rest ++ later) ∙ ap (λ z. name_in (length (module_of s).types) z y (use_at s y site (trust_at (points_of s) f)).type) (uses_append (with_use h.vs (use_at s y site (trust_at (points_of s) f))) rest later ∙ ap (λ z. with_uses z later) used) in
          let others : List ℕ → List ℕ = names_from (labels_of s) (name later) (module_of s) (points_of s) (f + 1) (site + site_count (type_named (module_of s) y)) in
          ap (λ (l : List ℕ). l ++ others (drop (f + 1) (function_entries (module_of s)))) et
          ∙ append_assoc types (index ∷ []) (others (drop (f + 1) (function_entries (module_of s))))
          ∙ (λ i. types ++ q i ∷ others (sym behind i))
          ∙ ap (λ z. types ++ names_from (labels_of s) (name later) (module_of s) (points_of s) f site z) (sym here) ∙ h.names later;
    }

  module _ (f site : ℕ) (types heads : List ℕ) (v : Variants) (h : FunctionsLeft f site types heads v) (ge : length (function_entries (module_of s)) ≤ f) where
    none : drop f (function_entries (module_of s)) ≡ []
    none = drop_all f (function_entries (module_of s)) ge

    pub functions_heads : heads ≡ heads_of (module_of s)
    functions_heads = sym (append-nil heads) ∙ ap (λ z. heads ++ heads_from (module_of s) site z) (sym none) ∙ h.firsts

    pub functions_sites : site ≡ first_global (module_of s)
    functions_sites = let a = ap (λ z. length (function_sites (module_of s) f z)) none in omega (arith, a, h.sites)

    pub functions_held : Holds v (with_uses before all_uses)
    functions_held = subst (Holds v) (ap (λ z. with_uses h.vs (left_uses f site z)) (sym none) ∙ h.uses) h.held

    pub functions_names : (later : Uses) → types ≡ names_from (labels_of s) (name later) (module_of s) (points_of s) 0 0 (function_entries (module_of s))
    functions_names later = sym (append-nil types) ∙ ap (λ z. types ++ names_from (labels_of s) (name later) (module_of s) (points_of s) f site z) (sym none) ∙ h.names later
