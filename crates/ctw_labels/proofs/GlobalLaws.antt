-- Globals that begin as others, and offsets, are valid in the placed module just where their facts hold of the labels.
use Rattle.std.proofs.Common.{◌≡◌, ℕ, zero, suc, ◌+◌, true, false, List, [], ◌∷◌, ◌++◌, Some, refl, sym, ◌∙◌, ap}
use Rattle.std.specs.Prelude.{slice_get, map, option_map}
use Rattle.std.specs.List.{AllByRecursion}
use Rattle.std.proofs.lemmas.Option.{slice_get-map}
use Rattle.ctw_ops.specs.declared.types.Label.{Label}
use Rattle.ctw_ops.specs.declared.types.Label.TheVariants.{Public}
use Rattle.ctw_ops.specs.declared.types.Width.TheVariants.{W32}
use Rattle.ctw_ops.specs.Types.{ValueType, FunctionType, VariableType, value_type}
use Rattle.ctw_ops.specs.Tree.{TypeEntry, Constant, Number, ValueOf, Global, Module, imported_globals, global_types}
use Rattle.ctw_ops.specs.Valid.{HasType, IsGlobal, IsOffset}
use Rattle.ctw_ops.specs.TagMaps.{variable_type_to}
use Rattle.ctw_labels.specs.Names.{Tag, At, Fixed}
use Rattle.ctw_labels.specs.Links.{fact, after, at_tag}
use Rattle.ctw_labels.specs.Points.{Points}
use Rattle.ctw_labels.specs.SitedModule.{globals_from, first_global, first_defined_global, sited_globals}
use Rattle.ctw_labels.specs.ModuleLinks.{init_fact, init_facts, offset_fact, offset_facts}
use Rattle.ctw_labels.specs.Placed.{placed_constant, placed_globals, placed_module}
use Rattle.ctw_labels.proofs.FactLaws.{all_hold, hold_append}
use Rattle.ctw_labels.proofs.PlaceLaws.{same_label_iff}
use Rattle.ctw_labels.proofs.ObeyLaws.{and_parts, and_both, like}
use Rattle.ctw_labels.proofs.Contexts.{globals_append, imports_globals_placed, globals_placed}

-- ---- what the plain module's validity says of sites

-- a global of a list, under its site
pub global_at : (n : ℕ) (gs : List (VariableType Label)) (k : ℕ) (g : VariableType Label) → slice_get gs k ≡ Some g → (h : VariableType Tag) × (slice_get (globals_from n gs) k ≡ Some h) × (h.mutable ≡ g.mutable) × (h.value.width ≡ g.value.width)
global_at n [] k g e = cc
global_at n (x ∷ gs) zero g e = let q : x ≡ g = cc in (record { mutable = x.mutable; value = value_type x.value.width (At n) }, refl, ap (λ z. z.mutable) q, ap (λ z. z.value.width) q)
global_at n (x ∷ gs) (suc k) g e = global_at (n + 1) gs k g e

pub before : {X : Type 0} (xs ys : List X) (k : ℕ) (x : X) → slice_get xs k ≡ Some x → slice_get (xs ++ ys) k ≡ Some x
before [] ys k x h = cc
before (y ∷ xs) ys zero x h = h
before (y ∷ xs) ys (suc k) x h = before xs ys k x h

abbrev pub sited_imported : Module Label → List (VariableType Tag)
sited_imported m = globals_from (first_global m) (imported_globals m.imports)

abbrev pub IsGoodInit : Module Label → ValueType Label → Constant Label → Type 0
IsGoodInit m t (Number u bits) = u.width ≡ t.width
IsGoodInit m t (ValueOf k) = (h : VariableType Tag) × (slice_get (sited_imported m) k ≡ Some h) × (slice_get (sited_globals m) k ≡ Some h) × (h.mutable ≡ false) × (h.value.width ≡ t.width)

abbrev pub IsGoodOffset : Module Label → Constant Label → Type 0
IsGoodOffset m (Number u bits) = u ≡ value_type W32 Public
IsGoodOffset m (ValueOf k) = (h : VariableType Tag) × (slice_get (sited_globals m) k ≡ Some h) × (h.mutable ≡ false) × (h.value.width ≡ W32)

pub init_good : (m : Module Label) (t : ValueType Label) (c : Constant Label) → HasType (imported_globals m.imports) t c → IsGoodInit m t c
init_good m t (Number u bits) e = ap (λ z. z.width) e
init_good m t (ValueOf k) e =
    let b = global_at (first_global m) (imported_globals m.imports) k e.0 e.1 in (
      b.0,
      b.1,
      ap (λ z. slice_get z k) (globals_append (first_global m) (imported_globals m.imports) (map (λ g. g.type) m.globals)) ∙ before (sited_imported m) (globals_from (first_defined_global m) (map (λ g. g.type) m.globals)) k b.0 b.1,
      b.2 ∙ e.2,
      b.3 ∙ ap (λ z. z.width) e.3,
    )

pub inits_good : (m : Module Label) (gs : List (Global Label)) → AllByRecursion (IsGlobal m) gs → AllByRecursion (λ g. IsGoodInit m g.type.value g.init) gs
inits_good m [] h = tt
inits_good m (g ∷ gs) h = (init_good m g.type.value g.init h.0, inits_good m gs h.1)

pub offset_good : (m : Module Label) (c : Constant Label) → IsOffset m c → IsGoodOffset m c
offset_good m (Number u bits) e = e
offset_good m (ValueOf k) e =
    let b = global_at (first_global m) (global_types m) k e.0 e.1 in
    (b.0, b.1, b.2 ∙ e.2, b.3 ∙ ap (λ z. z.width) e.3)

pub offsets_good : (m : Module Label) (cs : List (Constant Label)) → AllByRecursion (IsOffset m) cs → AllByRecursion (IsGoodOffset m) cs
offsets_good m [] h = tt
offsets_good m (c ∷ cs) h = (offset_good m c h.0, offsets_good m cs h.1)

-- ---- a labelling

some_same : {A : Type 0} {x y : A} → Some x ≡ Some y → x ≡ y
some_same e = cc

module _ (l : ℕ → Label) where
  one_to : (a b : Tag) → at_tag l a ≡ at_tag l b → all_hold (like l) (fact 12 a b) ≡ true
  one_to a b e = and_both (like l a b) true ((same_label_iff (at_tag l a) (at_tag l b)).1 e) refl

  one_from : (a b : Tag) → all_hold (like l) (fact 12 a b) ≡ true → at_tag l a ≡ at_tag l b
  one_from a b e = (same_label_iff (at_tag l a) (at_tag l b)).0 (and_parts (like l a b) true e).0

  -- the type that a constant of the placed module has by its global's label
  module _ (T : List (TypeEntry Label)) (name : ℕ → FunctionType Label → ℕ) (m : Module Label) (p : Points) where
    abbrev M : Module Label
    M = placed_module (at_tag l) name m p T

    imported_at : (k : ℕ) (h : VariableType Tag) → slice_get (sited_imported m) k ≡ Some h → slice_get (imported_globals M.imports) k ≡ Some (variable_type_to (at_tag l) h)
    imported_at k h e = ap (λ z. slice_get z k) (imports_globals_placed (at_tag l) T name m p) ∙ slice_get-map (variable_type_to (at_tag l)) (sited_imported m) k ∙ ap (option_map (variable_type_to (at_tag l))) e

    global_placed_at : (k : ℕ) (h : VariableType Tag) → slice_get (sited_globals m) k ≡ Some h → slice_get (global_types M) k ≡ Some (variable_type_to (at_tag l) h)
    global_placed_at k h e = ap (λ z. slice_get z k) (globals_placed (at_tag l) T name m p) ∙ slice_get-map (variable_type_to (at_tag l)) (sited_globals m) k ∙ ap (option_map (variable_type_to (at_tag l))) e

    init_from : (n : ℕ) (t : ValueType Label) (c : Constant Label) → IsGoodInit m t c → all_hold (like l) (init_fact (sited_globals m) (At n) c) ≡ true → HasType (imported_globals M.imports) (value_type t.width (l n)) (placed_constant (l n) c)
    init_from n t (Number u bits) g e = λ i. value_type (g i) (l n)
    init_from n t (ValueOf k) g e =
        let q : at_tag l g.0.value.tag ≡ l n = one_from g.0.value.tag (At n) (ap (λ z. all_hold (like l) (after z (λ f. fact 12 f.value.tag (At n)))) (sym g.2) ∙ e) in
        (variable_type_to (at_tag l) g.0, imported_at k g.0 g.1, g.3, λ i. value_type (g.4 i) (q i))

    init_to : (n : ℕ) (t : ValueType Label) (c : Constant Label) → IsGoodInit m t c → HasType (imported_globals M.imports) (value_type t.width (l n)) (placed_constant (l n) c) → all_hold (like l) (init_fact (sited_globals m) (At n) c) ≡ true
    init_to n t (Number u bits) g e = refl
    init_to n t (ValueOf k) g e =
        let s : variable_type_to (at_tag l) g.0 ≡ e.0 = some_same (sym (imported_at k g.0 g.1) ∙ e.1) in
        ap (λ z. all_hold (like l) (after z (λ f. fact 12 f.value.tag (At n)))) g.2 ∙ one_to g.0.value.tag (At n) (ap (λ z. z.value.tag) s ∙ ap (λ z. z.tag) e.3)

    pub inits_from : (n : ℕ) (gs : List (Global Label)) → AllByRecursion (λ g. IsGoodInit m g.type.value g.init) gs → all_hold (like l) (init_facts (sited_globals m) n gs) ≡ true → AllByRecursion (IsGlobal M) (placed_globals (at_tag l) n gs)
    inits_from n [] g e = tt
    inits_from n (x ∷ gs) g e =
        let q = and_parts (all_hold (like l) (init_fact (sited_globals m) (At n) x.init)) (all_hold (like l) (init_facts (sited_globals m) (n + 1) gs)) (sym (hold_append (like l) (init_fact (sited_globals m) (At n) x.init) (init_facts (sited_globals m) (n + 1) gs)) ∙ e) in
        (init_from n x.type.value x.init g.0 q.0, inits_from (n + 1) gs g.1 q.1)

    pub inits_to : (n : ℕ) (gs : List (Global Label)) → AllByRecursion (λ g. IsGoodInit m g.type.value g.init) gs → AllByRecursion (IsGlobal M) (placed_globals (at_tag l) n gs) → all_hold (like l) (init_facts (sited_globals m) n gs) ≡ true
    inits_to n [] g h = refl
    inits_to n (x ∷ gs) g h =
        hold_append (like l) (init_fact (sited_globals m) (At n) x.init) (init_facts (sited_globals m) (n + 1) gs)
        ∙ and_both (all_hold (like l) (init_fact (sited_globals m) (At n) x.init)) (all_hold (like l) (init_facts (sited_globals m) (n + 1) gs)) (init_to n x.type.value x.init g.0 h.0) (inits_to (n + 1) gs g.1 h.1)

    offset_from : (c : Constant Label) → IsGoodOffset m c → all_hold (like l) (offset_fact (sited_globals m) c) ≡ true → IsOffset M c
    offset_from (Number u bits) g e = g
    offset_from (ValueOf k) g e =
        let q : at_tag l g.0.value.tag ≡ Public = one_from g.0.value.tag Fixed (ap (λ z. all_hold (like l) (after z (λ f. fact 18 f.value.tag Fixed))) (sym g.1) ∙ e) in
        (variable_type_to (at_tag l) g.0, global_placed_at k g.0 g.1, g.2, λ i. value_type (g.3 i) (q i))

    offset_to : (c : Constant Label) → IsGoodOffset m c → IsOffset M c → all_hold (like l) (offset_fact (sited_globals m) c) ≡ true
    offset_to (Number u bits) g e = refl
    offset_to (ValueOf k) g e =
        let s : variable_type_to (at_tag l) g.0 ≡ e.0 = some_same (sym (global_placed_at k g.0 g.1) ∙ e.1) in
        ap (λ z. all_hold (like l) (after z (λ f. fact 18 f.value.tag Fixed))) g.1 ∙ one_to g.0.value.tag Fixed (ap (λ z. z.value.tag) s ∙ ap (λ z. z.tag) e.3)

    pub offsets_from : (cs : List (Constant Label)) → AllByRecursion (IsGoodOffset m) cs → all_hold (like l) (offset_facts (sited_globals m) cs) ≡ true → AllByRecursion (IsOffset M) cs
    offsets_from [] g e = tt
    offsets_from (c ∷ cs) g e =
        let q = and_parts (all_hold (like l) (offset_fact (sited_globals m) c)) (all_hold (like l) (offset_facts (sited_globals m) cs)) (sym (hold_append (like l) (offset_fact (sited_globals m) c) (offset_facts (sited_globals m) cs)) ∙ e) in
        (offset_from c g.0 q.0, offsets_from cs g.1 q.1)

    pub offsets_to : (cs : List (Constant Label)) → AllByRecursion (IsGoodOffset m) cs → AllByRecursion (IsOffset M) cs → all_hold (like l) (offset_facts (sited_globals m) cs) ≡ true
    offsets_to [] g h = refl
    offsets_to (c ∷ cs) g h =
        hold_append (like l) (offset_fact (sited_globals m) c) (offset_facts (sited_globals m) cs)
        ∙ and_both (all_hold (like l) (offset_fact (sited_globals m) c)) (all_hold (like l) (offset_facts (sited_globals m) cs)) (offset_to c g.0 h.0) (offsets_to cs g.1 h.1)
