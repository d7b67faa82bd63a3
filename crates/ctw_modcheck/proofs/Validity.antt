-- The checks find no fault exactly in a valid module.
use Rattle.std.proofs.Common.{◌≡◌, ◌≢◌, ◌↔◌, ℕ, zero, suc, Bool, true, false, not, ◌&&◌, ◌||◌, ◌==◌, List, [], ◌∷◌, ◌++◌, map, Option, Some, None, is_some, IsSome, All, AllPairs, refl, sym, ap, ◌∙◌, arith, slice_get}
use Rattle.std.specs.List.{list_all}
use Rattle.std.specs.Str.{bytes_eq}
use Rattle.std.proofs.lemmas.Bool.{eqb-true, eq-eqb}
use Rattle.std.proofs.lemmas.List.Elements.{All-nil, All-cons}
use Rattle.std.proofs.lemmas.List.Kept.{AllPairs-cons}
use Rattle.std.proofs.lemmas.Slice.Eq.{bytes_eq-Decides}
use Rattle.ctw_ops.specs.declared.types.Label.{Label}
use Rattle.ctw_ops.specs.declared.types.Label.TheVariants.{Public}
use Rattle.ctw_ops.specs.declared.types.Width.TheVariants.{W32}
use Rattle.ctw_ops.specs.declared.types.Limits.{Limits}
use Rattle.ctw_ops.specs.declared.types.ExternTag.{ExternTag}
use Rattle.ctw_ops.specs.declared.types.ExternTag.TheVariants.{Func, Table, Memory, Global as GlobalTag}
use Rattle.ctw_ops.specs.declared.fault.Space.{Space}
use Rattle.ctw_ops.specs.declared.fault.Space.TheVariants as space
use Rattle.ctw_ops.specs.Types.{ValueType, VariableType, MemoryType, value_type}
use Rattle.ctw_ops.specs.Tree.{Module, Extern, ImportedFunction, ImportedTable, ImportedMemory, ImportedGlobal, Constant, Number, ValueOf, Global, Export, Element, Segment, imported_globals, memory_among, table_among, function_entries, global_types, type_named}
use Rattle.ctw_ops.specs.Valid.{AreLimits, IsMemory, Names, IsImported, IsConstantOf, HasType, IsGlobal, IsOffset, IsExported, IsStart, IsElement, IsSegment, IsValidAround, IsFormed, IsValid}
use Rattle.ctw_ops.specs.Bodies.{HasItsType}
use Rattle.ctw_modcheck.specs.declared.fault.Invalid.TheVariants.{ModuleIndex, DoubleExport, ConstExpr, LimitsOrder, StartType, SegmentType}
use Rattle.ctw_ops.specs.Equal.{same_type}
use Rattle.ctw_ops.proofs.EqualLaws.{same_type_is, same_type_when}
use Rattle.ctw_modcheck.specs.Faults.{first_in, names, in_order, is_memory, table_fault, memory_fault, extern_fault, import_fault, function_fault, is_there, is_constant, has_type, names_constant, is_of_type, global_fault, names_extern, has_name, export_fault, exports_fault, has_no_types, is_bare, start_type_fault, start_fault, offset_fault, element_fault, segment_fault, around_fault}
use Rattle.ctw_modcheck.proofs.Nones.{NoneWhere, none_unless, none_or, none_same, none_first, none_some, all_first, all_rest, all_to, all_both, both_tests, not_test, some_test, all_test, names_test}
use Rattle.ctw_modcheck.specs.Check.{bodies_fault, fault_of}
use Rattle.ctw_modcheck.proofs.BodyChecks.{bodies_none}
use Rattle.ctw_modcheck.proofs.TypeChecks.{types_none, limits_test, memory_test}

-- ---- imports and functions

extern_none : (m : Module Label) (i : ℕ) (e : Extern Label) → NoneWhere (extern_fault m i e) (IsImported m e)
extern_none m i (ImportedFunction type) = none_unless (names m.types type) (ModuleIndex space.Imports i) (Names m.types type) (names_test m.types type)
extern_none m i (ImportedTable limits) = none_unless (in_order limits) (LimitsOrder space.Imports) (AreLimits limits) (limits_test limits)
extern_none m i (ImportedMemory type) = none_unless (is_memory type) (LimitsOrder space.Imports) (IsMemory type) (memory_test type)
extern_none m i (ImportedGlobal type) = ((λ e. tt), (λ h. refl))

pub imports_none : (m : Module Label) → NoneWhere (first_in (import_fault m) 0 m.imports) (All (λ i. IsImported m i.kind) m.imports)
imports_none m = none_first (import_fault m) (λ i. IsImported m i.kind) (λ i x. extern_none m i x.kind) 0 m.imports

functions_none : (m : Module Label) → NoneWhere (first_in (function_fault m) 0 m.functions) (All (λ f. Names m.types f.type) m.functions)
functions_none m = none_first (function_fault m) (λ f. Names m.types f.type) (λ i f. none_unless (names m.types f.type) (ModuleIndex space.Functions i) (Names m.types f.type) (names_test m.types f.type)) 0 m.functions

-- ---- constant expressions

type_test : (t u : ValueType Label) → (same_type t u ≡ true) ↔ (t ≡ u)
type_test t u = (same_type_is t u, same_type_when t u)

-- a global that is constant and of the type
constant_test : (t : ValueType Label) (o : Option (VariableType Label)) → ((is_constant o && has_type t o) ≡ true) ↔ IsConstantOf t o
constant_test t None = ((λ e. absurd cc), (λ h. absurd (let q : None ≡ Some h.0 = h.1 in cc)))
constant_test t (Some g) =
    let b = both_tests (not g.mutable) (same_type g.value t) (g.mutable ≡ false) (g.value ≡ t) (not_test g.mutable) (type_test g.value t) in (
      (λ e. let q = b.0 e in (g, refl, q.0, q.1)),
      (λ h. let q : g ≡ h.0 = let r : Some g ≡ Some h.0 = h.1 in cc in b.1 (ap (λ (x : VariableType Label). x.mutable) q ∙ h.2, ap (λ (x : VariableType Label). x.value) q ∙ h.3)),
    )

expression_test : (globals : List (VariableType Label)) (t : ValueType Label) (c : Constant Label) → ((names_constant globals c && is_of_type globals t c) ≡ true) ↔ HasType globals t c
expression_test globals t (Number type bits) = type_test type t
expression_test globals t (ValueOf g) = constant_test t (slice_get globals g)

-- a global that is imported is among all
imported_there : (m : Module Label) (t : ValueType Label) (c : Constant Label) → HasType (imported_globals m.imports) t c → is_there m c ≡ true
imported_there m t (Number type bits) h = refl
imported_there m t (ValueOf g) h = grown (imported_globals m.imports) (map (λ x. x.type) m.globals) g (h.0, h.1)
  where
    grown : (xs ys : List (VariableType Label)) (k : ℕ) → ((x : VariableType Label) × (slice_get xs k ≡ Some x)) → is_some (slice_get (xs ++ ys) k) ≡ true
    grown [] ys k (x, e) = absurd cc
    grown (a ∷ xs) ys zero p = refl
    grown (a ∷ xs) ys (suc k) p = grown xs ys k p

global_none : (m : Module Label) (i : ℕ) (g : Global Label) → NoneWhere (global_fault m i g) (IsGlobal m g)
global_none m i g =
    let a = none_unless (is_there m g.init) (ModuleIndex space.Globals i) (is_there m g.init ≡ true) ((λ e. e), (λ e. e)) in
    let b = none_unless (names_constant (imported_globals m.imports) g.init && is_of_type (imported_globals m.imports) g.type.value g.init) (ConstExpr space.Globals i)
    (HasType (imported_globals m.imports) g.type.value g.init) (expression_test (imported_globals m.imports) g.type.value g.init) in
    none_same (global_fault m i g) (is_there m g.init ≡ true × IsGlobal m g) (IsGlobal m g) (none_or _ _ (is_there m g.init ≡ true) (IsGlobal m g) a b) (λ h. h.1) (λ h. (imported_there m g.type.value g.init h, h))

-- ---- exports and start

zero_test : (i : ℕ) → ((i == 0) ≡ true) ↔ (i ≡ 0)
zero_test i = (eqb-true i 0, eq-eqb i 0)

exported_test : (m : Module Label) (tag : ExternTag) (i : ℕ) → (names_extern m tag i ≡ true) ↔ IsExported m tag i
exported_test m Func i = names_test (function_entries m) i
exported_test m Table i = both_tests (i == 0) (is_some (table_among m.imports m.table)) (i ≡ 0) (IsSome (table_among m.imports m.table)) (zero_test i) (some_test (table_among m.imports m.table))
exported_test m Memory i = both_tests (i == 0) (is_some (memory_among m.imports m.memory)) (i ≡ 0) (IsSome (memory_among m.imports m.memory)) (zero_test i) (some_test (memory_among m.imports m.memory))
exported_test m GlobalTag i = names_test (global_types m) i

-- two names differ exactly where their bytes do
differ_test : (xs ys : List ℕ) → (bytes_eq xs ys ≡ false) ↔ (xs ≢ ys)
differ_test xs ys = (
  (λ e q. let t : bytes_eq xs ys ≡ true = (bytes_eq-Decides xs ys).1 q in let w : false ≡ true = sym e ∙ t in absurd cc),
  (λ n. no_bytes (bytes_eq xs ys) refl n),
)
  where
    no_bytes : (b : Bool) → bytes_eq xs ys ≡ b → xs ≢ ys → b ≡ false
    no_bytes true q n = absurd (n ((bytes_eq-Decides xs ys).0 q))
    no_bytes false q n = refl

neither : (b c : Bool) → ((b || c) ≡ false) ↔ ((b ≡ false) × (c ≡ false))
neither true c = ((λ e. absurd cc), (λ h. absurd (let q : true ≡ false = h.0 in cc)))
neither false c = ((λ e. (refl, e)), (λ h. h.1))

-- a name that isn't among exports
abbrev IsNew : List Export → Export → Type 0
IsNew before x = has_name x.name before ≡ false

new_behind : (e : Export) (before : List Export) (x : Export) → IsNew (e ∷ before) x → IsNew before x
new_behind e before x h = ((neither (bytes_eq e.name x.name) (has_name x.name before)).0 h).1

new_other : (e : Export) (before : List Export) (x : Export) → IsNew (e ∷ before) x → e.name ≢ x.name
new_other e before x h = (differ_test e.name x.name).0 ((neither (bytes_eq e.name x.name) (has_name x.name before)).0 h).0

new_both : (e : Export) (before : List Export) (x : Export) → IsNew before x → e.name ≢ x.name → IsNew (e ∷ before) x
new_both e before x h d = (neither (bytes_eq e.name x.name) (has_name x.name before)).1 ((differ_test e.name x.name).1 d, h)

abbrev Differ : Export → Export → Type 0
Differ a b = a.name ≢ b.name

abbrev IsThere : Module Label → Export → Type 0
IsThere m e = IsExported m e.kind e.index

-- exports behind others
record AreExports (m : Module Label) (before l : List Export) : Type 0 where
  there : All (IsThere m) l
  new : All (IsNew before) l
  differ : AllPairs Differ l

one_none : (m : Module Label) (before : List Export) (i : ℕ) (e : Export) → NoneWhere (export_fault m before i e) (IsThere m e × IsNew before e)
one_none m before i e = none_or _ _ (IsThere m e) (IsNew before e)
    (none_unless (names_extern m e.kind e.index) (ModuleIndex space.Exports i) (IsThere m e) (exported_test m e.kind e.index))
    (none_unless (not (has_name e.name before)) (DoubleExport i) (IsNew before e) (not_test (has_name e.name before)))

more_exports : (m : Module Label) (before : List Export) (e : Export) (l : List Export) → (IsThere m e × IsNew before e) × AreExports m (e ∷ before) l → AreExports m before (e ∷ l)
more_exports m before e l h = record {
  there = All-cons (IsThere m) e l h.0.0 h.1.there;
  new = All-cons (IsNew before) e l h.0.1 (all_to (IsNew (e ∷ before)) (IsNew before) l (new_behind e before) h.1.new);
  differ = AllPairs-cons Differ e l (all_to (IsNew (e ∷ before)) (Differ e) l (new_other e before) h.1.new) h.1.differ;
}

less_exports : (m : Module Label) (before : List Export) (e : Export) (l : List Export) → AreExports m before (e ∷ l) → (IsThere m e × IsNew before e) × AreExports m (e ∷ before) l
less_exports m before e l h = (
  (all_first (IsThere m) e l h.there, all_first (IsNew before) e l h.new),
  record {
    there = all_rest (IsThere m) e l h.there;
    new = all_both (IsNew before) (Differ e) (IsNew (e ∷ before)) l (new_both e before) (all_rest (IsNew before) e l h.new) (λ k d q. h.differ 0 (suc k) d (omega arith) (omega (arith, q)));
    differ = λ j k d p q. h.differ (suc j) (suc k) d (omega (arith, p)) (omega (arith, q));
  },
)

exports_none : (m : Module Label) (before : List Export) (i : ℕ) (l : List Export) → NoneWhere (exports_fault m before i l) (AreExports m before l)
exports_none m before i [] = ((λ e. record { there = All-nil (IsThere m); new = All-nil (IsNew before); differ = λ j k d p q. absurd (omega (arith, q)) }), (λ h. refl))
exports_none m before i (e ∷ l) =
    none_same (exports_fault m before i (e ∷ l)) ((IsThere m e × IsNew before e) × AreExports m (e ∷ before) l) (AreExports m before (e ∷ l))
    (none_or (export_fault m before i e) (exports_fault m (e ∷ before) (suc i) l) (IsThere m e × IsNew before e) (AreExports m (e ∷ before) l) (one_none m before i e) (exports_none m (e ∷ before) (suc i) l))
    (more_exports m before e l) (less_exports m before e l)

all_new : (l : List Export) → All (IsNew []) l
all_new l = λ k d q. refl

bare_types : (ps : List (ValueType Label)) (r : Option (ValueType Label)) → (has_no_types ps r ≡ true) ↔ ((ps ≡ []) × (r ≡ None))
bare_types [] None = ((λ e. (refl, refl)), (λ h. refl))
bare_types [] (Some t) = ((λ e. absurd cc), (λ h. absurd (let q : Some t ≡ None = h.1 in cc)))
bare_types (p ∷ ps) r = ((λ e. absurd cc), (λ h. absurd (let q : p ∷ ps ≡ [] = h.0 in cc)))

-- the type index of a function that is there, whose type has no types
abbrev IsStartType : Module Label → Option ℕ → Type 0
IsStartType m o = (type : ℕ) × (o ≡ Some type) × ((type_named m type).params ≡ []) × ((type_named m type).result ≡ None)

start_type_none : (m : Module Label) (o : Option ℕ) → NoneWhere (start_type_fault m o) (IsStartType m o)
start_type_none m None = ((λ e. absurd cc), (λ h. absurd (let q : None ≡ Some h.0 = h.1 in cc)))
start_type_none m (Some type) =
    let t = bare_types (type_named m type).params (type_named m type).result in
    let n = none_unless (is_bare (type_named m type)) StartType _ t in
    ((λ e. let q = n.0 e in (type, refl, q.0, q.1)), (λ h. n.1 (same h)))
  where
    same : IsStartType m (Some type) → ((type_named m type).params ≡ []) × ((type_named m type).result ≡ None)
    same (other, e, p, r) =
        let q : other ≡ type = let k : Some type ≡ Some other = e in cc in
        (ap (λ (j : ℕ). (type_named m j).params) (sym q) ∙ p, ap (λ (j : ℕ). (type_named m j).result) (sym q) ∙ r)

start_none : (m : Module Label) (s : ℕ) → NoneWhere (start_fault m s) (IsStart m s)
start_none m s = start_type_none m (slice_get (function_entries m) s)

-- ---- segments

offset_none : (m : Module Label) (s : Space) (i : ℕ) (found : Bool) (P : Type 0) (c : Constant Label) → ((found ≡ true) ↔ P) → NoneWhere (offset_fault m s i found c) (P × IsOffset m c)
offset_none m s i found P c h =
    let a = none_unless (found && is_there m c) (ModuleIndex s i) (P × (is_there m c ≡ true)) (both_tests found (is_there m c) P (is_there m c ≡ true) h ((λ e. e), (λ e. e))) in
    let b = none_unless (names_constant (global_types m) c) (ConstExpr s i) (names_constant (global_types m) c ≡ true) ((λ e. e), (λ e. e)) in
    let d = none_unless (is_of_type (global_types m) (value_type W32 Public) c) (SegmentType s i) (is_of_type (global_types m) (value_type W32 Public) c ≡ true) ((λ e. e), (λ e. e)) in
    let t = expression_test (global_types m) (value_type W32 Public) c in
    let u = both_tests (names_constant (global_types m) c) (is_of_type (global_types m) (value_type W32 Public) c) _ _ ((λ e. e), (λ e. e)) ((λ e. e), (λ e. e)) in
    none_same (offset_fault m s i found c) _ (P × IsOffset m c) (none_or _ _ _ _ a (none_or _ _ _ _ b d)) (λ q. (q.0.0, t.0 (u.1 q.1))) (λ q. ((q.0, offset_there m c q.1), u.0 (t.1 q.1)))
  where
    offset_there : (m : Module Label) (c : Constant Label) → IsOffset m c → is_there m c ≡ true
    offset_there m (Number type bits) h = refl
    offset_there m (ValueOf g) h = ap is_some h.1

element_none : (m : Module Label) (i : ℕ) (e : Element Label) → NoneWhere (element_fault m i e) (IsElement m e)
element_none m i e =
    let found = both_tests (names_extern m Table e.table) (list_all (names (function_entries m)) e.functions) (IsExported m Table e.table) (All (Names (function_entries m)) e.functions)
    (exported_test m Table e.table) (all_test (names (function_entries m)) (Names (function_entries m)) (names_test (function_entries m)) e.functions) in
    none_same (element_fault m i e) ((IsExported m Table e.table × All (Names (function_entries m)) e.functions) × IsOffset m e.offset) (IsElement m e)
    (offset_none m space.Elements i (names_extern m Table e.table && list_all (names (function_entries m)) e.functions) (IsExported m Table e.table × All (Names (function_entries m)) e.functions) e.offset found)
    (λ h. (h.0.0.0, h.0.0.1, h.1, h.0.1)) (λ h. (((h.0, h.1), h.3), h.2))

segment_none : (m : Module Label) (i : ℕ) (s : Segment Label) → NoneWhere (segment_fault m i s) (IsSegment m s)
segment_none m i s =
    none_same (segment_fault m i s) (IsExported m Memory s.memory × IsOffset m s.offset) (IsSegment m s)
    (offset_none m space.Segments i (names_extern m Memory s.memory) (IsExported m Memory s.memory) s.offset (exported_test m Memory s.memory))
    (λ h. (h.0.0, h.0.1, h.1)) (λ h. ((h.0, h.1), h.2))

-- ---- the whole

pub table_none : (s : Space) (l : Limits) → NoneWhere (table_fault s l) (AreLimits l)
table_none s l = none_unless (in_order l) (LimitsOrder s) (AreLimits l) (limits_test l)

pub memory_none : (s : Space) (t : MemoryType Label) → NoneWhere (memory_fault s t) (IsMemory t)
memory_none s t = none_unless (is_memory t) (LimitsOrder s) (IsMemory t) (memory_test t)

-- the checks around the bodies find nothing exactly in a module that is valid around them
pub around_none : (m : Module Label) → NoneWhere (around_fault m) (IsValidAround m)
unfolding around_fault
around_none m =
    none_same (around_fault m) _ (IsValidAround m)
    (none_or _ _ _ _ (types_none m.types)
    (none_or _ _ _ _ (imports_none m)
    (none_or _ _ _ _ (functions_none m)
    (none_or _ _ _ _ (none_some (table_fault space.Tables) AreLimits (table_none space.Tables) m.table)
    (none_or _ _ _ _ (none_some (memory_fault space.Memories) IsMemory (memory_none space.Memories) m.memory)
    (none_or _ _ _ _ (none_first (global_fault m) (IsGlobal m) (global_none m) 0 m.globals)
    (none_or _ _ _ _ (exports_none m [] 0 m.exports)
    (none_or _ _ _ _ (none_some (start_fault m) (IsStart m) (start_none m) m.start)
    (none_or _ _ _ _ (none_first (element_fault m) (IsElement m) (element_none m) 0 m.elements) (none_first (segment_fault m) (IsSegment m) (segment_none m) 0 m.segments))))))))))
    (λ h. record {
      types = h.0;
      imports = h.1.0;
      functions = h.1.1.0;
      table = h.1.1.1.0;
      memory = h.1.1.1.1.0;
      globals = h.1.1.1.1.1.0;
      exports = h.1.1.1.1.1.1.0.there;
      names = h.1.1.1.1.1.1.0.differ;
      start = h.1.1.1.1.1.1.1.0;
      elements = h.1.1.1.1.1.1.1.1.0;
      segments = h.1.1.1.1.1.1.1.1.1;
    })
    (λ v. (v.types, (v.imports, (v.functions, (v.table, (v.memory, (v.globals, (record { there = v.exports; new = all_new m.exports; differ = v.names }, (v.start, (v.elements, v.segments))))))))))

-- ---- with the bodies

valid_none : (m : Module Label) → IsFormed m → NoneWhere (fault_of m) (IsValid m)
unfolding fault_of
valid_none m formed =
    none_same (fault_of m) _ (IsValid m) (none_or (around_fault m) (bodies_fault m) (IsValidAround m) (All (HasItsType m) m.functions) (around_none m) (bodies_none m))
    (λ h. record { formed = formed; around = h.0; bodies = h.1 }) (λ v. (v.around, v.bodies))

-- a module without a fault is valid, and a valid one has none
pub none_is_valid : (m : Module Label) → IsFormed m → fault_of m ≡ None → IsValid m
none_is_valid m formed e = (valid_none m formed).0 e

pub valid_is_none : (m : Module Label) → IsValid m → fault_of m ≡ None
valid_is_none m v = (valid_none m v.formed).1 v
