-- What stands around the bodies of a placed module is valid.
use Rattle.std.proofs.Common.{◌≡◌, ℕ, zero, suc, ◌+◌, List, [], ◌∷◌, ◌++◌, Option, Some, None, refl, sym, ◌∙◌, ap, subst}
use Rattle.std.specs.Prelude.{slice_get, map, option_map, is_some, IsSome, IfSome}
use Rattle.std.specs.List.{AllByRecursion}
use Rattle.std.proofs.lemmas.Option.{slice_get-map}
use Rattle.std.proofs.lemmas.List.Elements.{recursion_from_All, All-from_recursion, All-weaker}
use Rattle.ctw_ops.specs.declared.types.Label.{Label}
use Rattle.ctw_ops.specs.declared.types.ExternTag.{ExternTag}
use Rattle.ctw_ops.specs.declared.types.ExternTag.TheVariants.{Func, Table, Memory, Global as GlobalTag}
use Rattle.ctw_ops.specs.Types.{ValueType, FunctionType, VariableType, MemoryType}
use Rattle.ctw_ops.specs.Tree.{TypeEntry, Extern, ImportedFunction, ImportedTable, ImportedMemory, ImportedGlobal, Import, Element, Segment, Module, imported_functions, with_function, memory_among, table_among, function_entries, global_types, type_named}
use Rattle.ctw_ops.specs.Valid.{AreTypes, Names, IsMemory, IsImported, IsGlobal, IsOffset, IsExported, IsStart, IsElement, IsSegment, IsValidAround}
use Rattle.ctw_stack.specs.Tags.{type_to}
use Rattle.ctw_ops.specs.TagMaps.{function_type_to}
use Rattle.ctw_labels.specs.Names.{Tag}
use Rattle.ctw_labels.specs.Points.{Points, trust_at}
use Rattle.ctw_labels.specs.Numbering.{type_from, params_from, result_from}
use Rattle.ctw_labels.specs.SitedModule.{site_count, SitedBody, globals_from, first_global, sited_globals, bodies}
use Rattle.ctw_labels.specs.ModuleLinks.{offsets}
use Rattle.ctw_labels.specs.Placed.{TypeUse, use_of, with_trust, function_uses, placed_memory, placed_extern, next_number, next_function, next_global, placed_imports, placed_function, placed_module}
use Rattle.ctw_labels.proofs.NumberLaws.{all_append_to, all_append_from}
use Rattle.ctw_labels.proofs.Contexts.{IsNamedUse, index_of, entries_placed, globals_placed, memory_placed, table_placed, type_found}
use Rattle.ctw_labels.proofs.BodyLaws.{IsNaming, IsOwn, own_use, own_types}

some_same : {A : Type 0} {x y : A} → Some x ≡ Some y → x ≡ y
some_same e = cc

is_some_map : {A B : Type 0} (f : A → B) (r : Option A) → is_some (option_map f r) ≡ is_some r
is_some_map f None = refl
is_some_map f (Some x) = refl

-- what is found in a list under a map is there
pub there : {A B : Type 0} (f : A → B) (xs : List A) (k : ℕ) (y : B) → slice_get (map f xs) k ≡ Some y → IsSome (slice_get xs k)
there f xs k y e = sym (is_some_map f (slice_get xs k)) ∙ ap is_some (sym (slice_get-map f xs k) ∙ e)

use_there : (m : Module Label) (p : Points) (j q : ℕ) (ys : List ℕ) (k : ℕ) → is_some (slice_get (function_uses m p j q ys) k) ≡ is_some (slice_get ys k)
use_there m p j q [] k = refl
use_there m p j q (y ∷ ys) zero = refl
use_there m p j q (y ∷ ys) (suc k) = use_there m p (j + 1) (q + site_count (type_named m y)) ys k

global_there : (n : ℕ) (gs : List (VariableType Label)) (k : ℕ) → is_some (slice_get (globals_from n gs) k) ≡ is_some (slice_get gs k)
global_there n [] k = refl
global_there n (g ∷ gs) zero = refl
global_there n (g ∷ gs) (suc k) = global_there (n + 1) gs k

module _ (L : Tag → Label) (T : List (TypeEntry Label)) (name : ℕ → FunctionType Label → ℕ) (m : Module Label) (p : Points) (naming : IsNaming L T name m p) where
  abbrev M : Module Label
  M = placed_module L name m p T

  entry_there : (k : ℕ) → is_some (slice_get (function_entries M) k) ≡ is_some (slice_get (function_entries m) k)
  entry_there k =
      ap (λ z. is_some (slice_get z k)) (entries_placed L T name m p) ∙ ap is_some (slice_get-map (index_of L T name) (function_uses m p 0 0 (function_entries m)) k)
      ∙ is_some_map (index_of L T name) (slice_get (function_uses m p 0 0 (function_entries m)) k) ∙ use_there m p 0 0 (function_entries m) k

  type_there : (u : TypeUse Tag) → IsNamedUse L T name u → Names T (index_of L T name u)
  type_there u h = there (λ e. e.type) T (index_of L T name u) (function_type_to L u.type) h

  -- ---- imports and functions

  memory_sizes : (t : MemoryType Label) → IsMemory t → IsMemory (placed_memory L m t)
  memory_sizes t h = h

  imports_valid : (j q n : ℕ) (is : List (Import Label)) → AllByRecursion (λ i. IsImported m i.kind) is → AllByRecursion (IsNamedUse L T name) (function_uses m p j q (imported_functions is)) → AllByRecursion (λ i. IsImported M i.kind) (placed_imports L name m p j q n is)
  imports_valid j q n [] h u = tt
  imports_valid j q n (i ∷ is) h u = by_kind i.kind h.0 u (λ f r s. imports_valid f r s is h.1)
    where
      by_kind : (k : Extern Label) → IsImported m k → AllByRecursion (IsNamedUse L T name) (function_uses m p j q (with_function k (imported_functions is))) →
          ((f r s : ℕ) → AllByRecursion (IsNamedUse L T name) (function_uses m p f r (imported_functions is)) → AllByRecursion (λ i. IsImported M i.kind) (placed_imports L name m p f r s is)) →
          IsImported M (placed_extern L name m p j q n k) × AllByRecursion (λ i. IsImported M i.kind) (placed_imports L name m p (next_number L name m p k j) (next_function L name m p k q) (next_global L name m p k n) is)
      by_kind (ImportedFunction y) e u r = (type_there (use_of y (with_trust (trust_at p j) (type_from q (type_named m y)))) u.0, r (j + 1) (q + site_count (type_named m y)) n u.1)
      by_kind (ImportedTable limits) e u r = (e, r j q n u)
      by_kind (ImportedMemory t) e u r = (memory_sizes t e, r j q n u)
      by_kind (ImportedGlobal g) e u r = (tt, r j q (n + 1) u)

  functions_valid : (bs : List SitedBody) → AllByRecursion (IsOwn L T name p) bs → AllByRecursion (λ f. Names T f.type) (map (placed_function L name m p) bs)
  functions_valid [] h = tt
  functions_valid (b ∷ bs) h = (type_there (own_use p b) h.0, functions_valid bs h.1)

  -- ---- exports and the start function

  memory_there : is_some (memory_among M.imports M.memory) ≡ is_some (memory_among m.imports m.memory)
  memory_there = ap is_some (memory_placed L T name m p) ∙ is_some_map (placed_memory L m) (memory_among m.imports m.memory)

  table_there : is_some (table_among M.imports M.table) ≡ is_some (table_among m.imports m.table)
  table_there = ap is_some (table_placed L T name m p)

  globals_there : (k : ℕ) → is_some (slice_get (global_types M) k) ≡ is_some (slice_get (global_types m) k)
  globals_there k =
      ap (λ z. is_some (slice_get z k)) (globals_placed L T name m p) ∙ ap is_some (slice_get-map _ (sited_globals m) k) ∙ is_some_map _ (slice_get (sited_globals m) k) ∙ global_there (first_global m) (global_types m) k

  exported : (kind : ExternTag) (k : ℕ) → IsExported m kind k → IsExported M kind k
  exported Func k h = entry_there k ∙ h
  exported Table k h = (h.0, table_there ∙ h.1)
  exported Memory k h = (h.0, memory_there ∙ h.1)
  exported GlobalTag k h = globals_there k ∙ h

  use_at : (j q : ℕ) (ys : List ℕ) (k y : ℕ) → AllByRecursion (IsNamedUse L T name) (function_uses m p j q ys) → slice_get ys k ≡ Some y →
      (f r : ℕ) × (slice_get (function_uses m p j q ys) k ≡ Some (use_of y (with_trust (trust_at p f) (type_from r (type_named m y))))) × IsNamedUse L T name (use_of y (with_trust (trust_at p f) (type_from r (type_named m y))))
  use_at j q [] k y h e = cc
  use_at j q (x ∷ ys) zero y h e = (j, q, ap (λ z. Some (use_of z (with_trust (trust_at p j) (type_from q (type_named m z))))) (some_same e), subst (λ z. IsNamedUse L T name (use_of z (with_trust (trust_at p j) (type_from q (type_named m z))))) (some_same e) h.0)
  use_at j q (x ∷ ys) (suc k) y h e = use_at (j + 1) (q + site_count (type_named m x)) ys k y h.1 e

  no_params : (r : ℕ) (ts : List (ValueType Label)) → ts ≡ [] → map (type_to L) (params_from r ts) ≡ []
  no_params r ts e = ap (λ z. map (type_to L) (params_from r z)) e

  no_result : (r : ℕ) (t : Option (ValueType Label)) → t ≡ None → option_map (type_to L) (result_from r t) ≡ None
  no_result r t e = ap (λ z. option_map (type_to L) (result_from r z)) e

  starts : (k : ℕ) → IsStart m k → IsStart M k
  starts k h =
      let u = use_at 0 0 (function_entries m) k h.0 naming.functions h.1 in
      let x : TypeUse Tag = use_of h.0 (with_trust (trust_at p u.0) (type_from u.1 (type_named m h.0))) in
      let e : type_named M (index_of L T name x) ≡ function_type_to L x.type = type_found L T name m p x u.3 in (
        index_of L T name x,
        ap (λ z. slice_get z k) (entries_placed L T name m p) ∙ slice_get-map (index_of L T name) (function_uses m p 0 0 (function_entries m)) k ∙ ap (option_map (index_of L T name)) u.2,
        ap (λ z. z.params) e ∙ no_params u.1 (type_named m h.0).params h.2,
        ap (λ z. z.result) e ∙ no_result _ (type_named m h.0).result h.3,
      )

  start_valid : (r : Option ℕ) → IfSome r (IsStart m) → IfSome r (IsStart M)
  start_valid None h = h
  start_valid (Some k) h = starts k h

  memory_valid : (r : Option (MemoryType Label)) → IfSome r IsMemory → IfSome (option_map (placed_memory L m) r) IsMemory
  memory_valid None h = h
  memory_valid (Some t) h = memory_sizes t h

  -- ---- elements and segments

  elements_valid : (es : List (Element Label)) → AllByRecursion (IsElement m) es → AllByRecursion (λ e. IsOffset M e.offset) es → AllByRecursion (IsElement M) es
  elements_valid [] h o = tt
  elements_valid (e ∷ es) h o = ((h.0.0, table_there ∙ h.0.1, o.0, All-weaker (Names (function_entries m)) (Names (function_entries M)) (λ k n. entry_there k ∙ n) e.functions h.0.3), elements_valid es h.1 o.1)

  segments_valid : (ss : List (Segment Label)) → AllByRecursion (IsSegment m) ss → AllByRecursion (λ s. IsOffset M s.offset) ss → AllByRecursion (IsSegment M) ss
  segments_valid [] h o = tt
  segments_valid (s ∷ ss) h o = ((h.0.0, memory_there ∙ h.0.1, o.0), segments_valid ss h.1 o.1)

  map_from : {A B : Type 0} (f : A → B) (P : B → Type 0) (xs : List A) → AllByRecursion P (map f xs) → AllByRecursion (λ x. P (f x)) xs
  map_from f P [] h = tt
  map_from f P (x ∷ xs) h = (h.0, map_from f P xs h.1)

  map_to : {A B : Type 0} (f : A → B) (P : B → Type 0) (xs : List A) → AllByRecursion (λ x. P (f x)) xs → AllByRecursion P (map f xs)
  map_to f P [] h = tt
  map_to f P (x ∷ xs) h = (h.0, map_to f P xs h.1)

  element_offsets : (N : Module Label) (es : List (Element Label)) → AllByRecursion (IsElement N) es → AllByRecursion (λ e. IsOffset N e.offset) es
  element_offsets N [] h = tt
  element_offsets N (e ∷ es) h = (h.0.2, element_offsets N es h.1)

  segment_offsets : (N : Module Label) (ss : List (Segment Label)) → AllByRecursion (IsSegment N) ss → AllByRecursion (λ s. IsOffset N s.offset) ss
  segment_offsets N [] h = tt
  segment_offsets N (s ∷ ss) h = (h.0.2, segment_offsets N ss h.1)

  -- the offsets of a valid module with these elements and segments
  pub offsets_of : (N : Module Label) → AllByRecursion (IsElement N) m.elements → AllByRecursion (IsSegment N) m.segments → AllByRecursion (IsOffset N) (offsets m)
  offsets_of N e s = all_append_to (IsOffset N) (map (λ e. e.offset) m.elements) (map (λ s. s.offset) m.segments)
      (map_to (λ e. e.offset) (IsOffset N) m.elements (element_offsets N m.elements e)) (map_to (λ s. s.offset) (IsOffset N) m.segments (segment_offsets N m.segments s))

  -- ---- all of it

  uses_first : (j q : ℕ) (ys zs : List ℕ) → AllByRecursion (IsNamedUse L T name) (function_uses m p j q (ys ++ zs)) → AllByRecursion (IsNamedUse L T name) (function_uses m p j q ys)
  uses_first j q [] zs h = tt
  uses_first j q (y ∷ ys) zs h = (h.0, uses_first (j + 1) (q + site_count (type_named m y)) ys zs h.1)

  pub around_valid : AreTypes T → IsValidAround m → AllByRecursion (IsGlobal M) M.globals → AllByRecursion (IsOffset M) (offsets m) → IsValidAround M
  around_valid t v g o =
      let w = all_append_from (IsOffset M) (map (λ e. e.offset) m.elements) (map (λ s. s.offset) m.segments) o in
      record {
        types = t;
        imports = All-from_recursion (λ i. IsImported M i.kind) M.imports (imports_valid 0 0 (first_global m) m.imports (recursion_from_All (λ i. IsImported m i.kind) m.imports v.imports) (uses_first 0 0 (imported_functions m.imports) (map (λ f. f.type) m.functions) naming.functions));
        functions = All-from_recursion (λ f. Names T f.type) M.functions (functions_valid (bodies m p) (own_types L T name m p naming));
        table = v.table;
        memory = memory_valid m.memory v.memory;
        globals = All-from_recursion (IsGlobal M) M.globals g;
        exports = All-weaker (λ e. IsExported m e.kind e.index) (λ e. IsExported M e.kind e.index) (λ e h. exported e.kind e.index h) m.exports v.exports;
        names = v.names;
        start = start_valid m.start v.start;
        elements = All-from_recursion (IsElement M) m.elements (elements_valid m.elements (recursion_from_All (IsElement m) m.elements v.elements) (map_from (λ e. e.offset) (IsOffset M) m.elements w.0));
        segments = All-from_recursion (IsSegment M) m.segments (segments_valid m.segments (recursion_from_All (IsSegment m) m.segments v.segments) (map_from (λ s. s.offset) (IsOffset M) m.segments w.1));
      }
