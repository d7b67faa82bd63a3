-- The erased set of a matching set of valid modules matches.
use Rattle.std.proofs.Common.{◌≡◌, ◌≢◌, ◌<◌, ℕ, zero, suc, Bool, true, false, cond, List, [], ◌∷◌, ◌++◌, length, map, find, get_or, slice_get, Option, Some, None, option_map, option_and_then, unwrap_or, All, AllPairs, refl, sym, ap, ap₂, subst, ◌∙◌, arith}
use Rattle.std.specs.Prelude.{sum_by}
use Rattle.std.specs.List.{cons_option}
use Rattle.std.specs.Str.{bytes_eq}
use Rattle.std.proofs.lemmas.List.{length-map}
use Rattle.std.proofs.lemmas.List.Elements.{All-nil, All-cons, All-head, All-tail, All-map, All-weaker}
use Rattle.std.proofs.lemmas.List.Sums.{sum_by-cons}
use Rattle.std.proofs.lemmas.Option.{slice_get-map, get_or_from_slice_get}
use Rattle.ctw_ops.specs.declared.types.Label.{Label}
use Rattle.ctw_ops.specs.declared.types.Limits.{Limits}
use Rattle.ctw_ops.specs.declared.types.ExternTag.{ExternTag}
use Rattle.ctw_ops.specs.declared.types.ExternTag.TheVariants as tag
use Rattle.ctw_ops.specs.Types.{ValueType, FunctionType, VariableType, MemoryType, erase_value_type, erase_function_type}
use Rattle.ctw_ops.specs.Tree.{Module, TypeEntry, Extern, ImportedFunction, ImportedTable, ImportedMemory, ImportedGlobal, Import, memory_among, table_among, function_entries, global_types, no_function_type, type_named}
use Rattle.ctw_ops.specs.Erasure.{kept_entry, erase_entries, base_of, erase_variable_type, erase_memory_type, erase_extern, erase_import, erase_module}
use Rattle.ctw_ops.specs.Valid.{IsValid}
use Rattle.ctw_ops.proofs.Lists.{in_range}
use Rattle.ctw_semantics.proofs.Modules.{named_erased, function_entries_erased, global_types_erased, memory_erased, table_erased}
use Rattle.ctw_ops.specs.ExternType.{ExternType}
use Rattle.ctw_ops.specs.ExternType as external
use Rattle.ctw_module.specs.Lookup.{export_in}
use Rattle.ctw_link.specs.Sets.{NamedModule, ModuleSet}
use Rattle.ctw_link.specs.Externals.{wanted, declared_type, offered, has_name, Meets, IsMet}
use Rattle.ctw_link.specs.Numbers.{LinkedModule, linked}
use Rattle.ctw_link.specs.Users.{user_entries, users_in, has_table, users_of, AreUnmixed}
use Rattle.ctw_link.specs.Matching.{AreMatching, pages_of, entries_of, entries}
use Rattle.ctw_link.specs.SetInstances.{AllValid}
use Rattle.ctw_launch.specs.ErasedSets.{erase_named, erase_set}
use Rattle.ctw_link.proofs.Below.{found_all}
use Rattle.ctw_launch.proofs.Parts.{all_front}
use Rattle.ctw_ops.proofs.Variants.{VariantsFit, variants_fit}
use Rattle.ctw_launch.proofs.Within.{all_flat, every}
use Rattle.ctw_launch.proofs.ErasedLinks.{erase_linked, linked_erased}

-- ---- what erased modules offer and want

abbrev pub erase_kind : List (TypeEntry Label) → ExternType Label → ExternType Label
erase_kind entries (external.Func index t) = external.Func (base_of entries index) (erase_function_type t)
erase_kind entries (external.Table limits) = external.Table limits
erase_kind entries (external.Memory t) = external.Memory (erase_memory_type t)
erase_kind entries (external.Global t) = external.Global (erase_variable_type t)

module _ (m : Module Label) (fit : VariantsFit m.types) where
  declared_erased : (t : ExternTag) (index : ℕ) → declared_type (erase_module m) t index ≡ option_map (erase_kind m.types) (declared_type m t index)
  declared_erased tag.Func index =
      ap (λ (l : List ℕ). option_map (λ type. external.Func type (type_named (erase_module m) type)) (slice_get l index)) (function_entries_erased m)
      ∙ ap (option_map (λ type. external.Func type (type_named (erase_module m) type))) (slice_get-map (base_of m.types) (function_entries m) index)
      ∙ by (slice_get (function_entries m) index)
    where
      by : (o : Option ℕ) → option_map (λ type. external.Func type (type_named (erase_module m) type)) (option_map (base_of m.types) o) ≡ option_map (erase_kind m.types) (option_map (λ type. external.Func type (type_named m type)) o)
      by None = refl
      by (Some type) = ap (λ (t : FunctionType Label). Some (external.Func (base_of m.types type) t)) (named_erased m fit type)
  declared_erased tag.Table index = ap (option_map (λ limits. external.Table limits)) (table_erased m.types m.imports m.table) ∙ by (table_among m.imports m.table)
    where
      by : (o : Option Limits) → option_map (λ limits. external.Table limits) o ≡ option_map (erase_kind m.types) (option_map (λ limits. external.Table limits) o)
      by None = refl
      by (Some l) = refl
  declared_erased tag.Memory index = ap (option_map (λ type. external.Memory type)) (memory_erased m.types m.imports m.memory) ∙ by (memory_among m.imports m.memory)
    where
      by : (o : Option (MemoryType Label)) → option_map (λ type. external.Memory type) (option_map erase_memory_type o) ≡ option_map (erase_kind m.types) (option_map (λ type. external.Memory type) o)
      by None = refl
      by (Some t) = refl
  declared_erased tag.Global index =
      ap (λ (l : List (VariableType Label)). option_map (λ type. external.Global type) (slice_get l index)) (global_types_erased m)
      ∙ ap (option_map (λ type. external.Global type)) (slice_get-map erase_variable_type (global_types m) index)
      ∙ by (slice_get (global_types m) index)
    where
      by : (o : Option (VariableType Label)) → option_map (λ type. external.Global type) (option_map erase_variable_type o) ≡ option_map (erase_kind m.types) (option_map (λ type. external.Global type) o)
      by None = refl
      by (Some t) = refl

  offered_erased : (name : List ℕ) → offered (erase_module m) name ≡ option_map (erase_kind m.types) (offered m name)
  offered_erased name = by (export_in name m.exports)
    where
      by : (o : Option (ExternTag × ℕ)) → option_and_then (λ thing. declared_type (erase_module m) thing.0 thing.1) o ≡ option_map (erase_kind m.types) (option_and_then (λ thing. declared_type m thing.0 thing.1) o)
      by None = refl
      by (Some thing) = declared_erased thing.0 thing.1

  wanted_erased : (e : Extern Label) → wanted (erase_module m) (erase_extern m.types e) ≡ erase_kind m.types (wanted m e)
  wanted_erased (ImportedFunction type) = ap (external.Func (base_of m.types type)) (named_erased m fit type)
  wanted_erased (ImportedTable limits) = refl
  wanted_erased (ImportedMemory type) = refl
  wanted_erased (ImportedGlobal type) = refl

meets_erased : (ts us : List (TypeEntry Label)) (got want : ExternType Label) → Meets got want → Meets (erase_kind ts got) (erase_kind us want)
meets_erased ts us (external.Func entry got) (external.Func index want) h = ap erase_function_type h
meets_erased ts us (external.Table got) (external.Table want) h = h
meets_erased ts us (external.Memory got) (external.Memory want) h = (refl, h.1)
meets_erased ts us (external.Global got) (external.Global want) h = ap erase_variable_type h
meets_erased ts us _ _ h = absurd h

find_named : (name : List ℕ) (set : ModuleSet) → find (has_name name) (erase_set set) ≡ option_map erase_named (find (has_name name) set)
find_named name [] = refl
find_named name (p ∷ set) = go (bytes_eq p.name name) (find_named name set)
  where
    go : (b : Bool) → find (has_name name) (erase_set set) ≡ option_map erase_named (find (has_name name) set)
        → cond b (Some (erase_named p)) (find (has_name name) (erase_set set)) ≡ option_map erase_named (cond b (Some p) (find (has_name name) set))
    go true h = refl
    go false h = h

met_erased : (before : ModuleSet) (m : Module Label) (i : Import Label) → AllValid before → VariantsFit m.types → IsMet before m i → IsMet (erase_set before) (erase_module m) (erase_import m.types i)
met_erased before m i v fit h = by (find (has_name i.module_name) before) refl h.1
  where
    by : (o : Option NamedModule) → find (has_name i.module_name) before ≡ o → option_and_then (λ p. offered p.tree i.name) o ≡ Some h.0 → IsMet (erase_set before) (erase_module m) (erase_import m.types i)
    by None at e = absurd cc
    by (Some p) at e =
        let valid = found_all (λ (p : NamedModule). IsValid p.tree) (has_name i.module_name) before p v at in
        let there : find (has_name i.module_name) (erase_set before) ≡ Some (erase_named p) = find_named i.module_name before ∙ ap (option_map erase_named) at in
        let offer : offered (erase_module p.tree) i.name ≡ Some (erase_kind p.tree.types h.0) = offered_erased p.tree (variants_fit p.tree.types valid.around.types) i.name ∙ ap (option_map (erase_kind p.tree.types)) e in (
          erase_kind p.tree.types h.0,
          ap (option_and_then (λ (q : NamedModule). offered q.tree i.name)) there ∙ offer,
          subst (Meets (erase_kind p.tree.types h.0)) (sym (wanted_erased m fit i.kind)) (meets_erased p.tree.types m.types h.0 (wanted m i.kind) h.2),
        )

-- ---- parts

record Split {A B : Type 0} (f : A → B) (xs : List A) (front : List B) (b : B) (behind : List B) : Type 0 where
  start : List A
  here : A
  rest : List A
  all : xs ≡ start ++ here ∷ rest
  mapped : front ≡ map f start
  is : b ≡ f here

split_more : {A B : Type 0} (f : A → B) (x : A) (xs : List A) (c : B) (front : List B) (b : B) (behind : List B) → c ≡ f x → Split f xs front b behind → Split f (x ∷ xs) (c ∷ front) b behind
split_more {A} {B} f x xs c front b behind head s =
    record { start = x ∷ s.start; here = s.here; rest = s.rest; all = ap (λ (l : List A). x ∷ l) s.all; mapped = ap₂ (λ (d : B) (l : List B). d ∷ l) head s.mapped; is = s.is }

split_map : {A B : Type 0} (f : A → B) (xs : List A) (front : List B) (b : B) (behind : List B) → map f xs ≡ front ++ b ∷ behind → Split f xs front b behind
split_map f [] [] b behind e = absurd cc
split_map f [] (c ∷ front) b behind e = absurd cc
split_map f (x ∷ xs) [] b behind e = record { start = []; here = x; rest = xs; all = refl; mapped = refl; is = cc }
split_map f (x ∷ xs) (c ∷ front) b behind e =
    let tail : map f xs ≡ front ++ b ∷ behind = cc in
    let head : c ≡ f x = cc in
    split_more f x xs c front b behind head (split_map f xs front b behind tail)

pairs_map : {A B : Type 0} (R : B → B → Type 0) (f : A → B) (xs : List A) → AllPairs (λ a b. R (f a) (f b)) xs → AllPairs R (map f xs)
pairs_map {A} {B} R f xs h i j d lt within =
    let last : j < length xs = omega (arith, within, length-map xs f) in
    let b = in_range xs j last in
    let a = in_range xs i (omega (arith, lt, last)) in
    let at : (k : ℕ) (x : A) → slice_get xs k ≡ Some x → f x ≡ get_or (map f xs) k d =
    λ k x e. sym (get_or_from_slice_get (map f xs) k (f x) d (slice_get-map f xs k ∙ ap (option_map f) e)) in
    let r : R (f a.0) (f b.0) = subst (λ (y : A). R (f a.0) (f y)) (get_or_from_slice_get xs j b.0 a.0 b.1) (subst (λ (x : A). R (f x) (f (get_or xs j a.0))) (get_or_from_slice_get xs i a.0 a.0 a.1) (h i j a.0 lt last)) in
    subst (λ (y : B). R (get_or (map f xs) i d) y) (at j b.0 b.1) (subst (λ (x : B). R x (f b.0)) (at i a.0 a.1) r)

-- ---- users of erased sets are erased types

abbrev IsErased : FunctionType Label → Type 0
IsErased t = erase_function_type t ≡ t

types_twice : (ts : List (ValueType Label)) → map erase_value_type (map erase_value_type ts) ≡ map erase_value_type ts
types_twice [] = refl
types_twice (t ∷ ts) = ap (λ (l : List (ValueType Label)). erase_value_type t ∷ l) (types_twice ts)

result_twice : (o : Option (ValueType Label)) → option_map erase_value_type (option_map erase_value_type o) ≡ option_map erase_value_type o
result_twice None = refl
result_twice (Some t) = refl

erased_twice : (t : FunctionType Label) → IsErased (erase_function_type t)
erased_twice t = ap₂ (λ (ps : List (ValueType Label)) (r : Option (ValueType Label)). record (erase_function_type t) { params = ps; result = r }) (types_twice t.params) (result_twice t.result)

entries_erased : (types : List (TypeEntry Label)) → All (λ e. IsErased e.type) (erase_entries types)
entries_erased [] = All-nil (λ e. IsErased e.type)
entries_erased (d ∷ ds) = go d.base (entries_erased ds)
  where
    go : (b : Option ℕ) → All (λ e. IsErased e.type) (erase_entries ds) → All (λ e. IsErased e.type) (cons_option (kept_entry b d.type) (erase_entries ds))
    go None h = All-cons (λ (e : TypeEntry Label). IsErased e.type) (record { base = None; type = erase_function_type d.type }) (erase_entries ds) (erased_twice d.type) h
    go (Some base) h = h

type_erased : (m : Module Label) (y : ℕ) → IsErased (type_named (erase_module m) y)
type_erased m y = subst (λ (o : Option (FunctionType Label)). IsErased (unwrap_or o no_function_type)) (sym (slice_get-map (λ (e : TypeEntry Label). e.type) (erase_entries m.types) y)) (go (erase_entries m.types) y (entries_erased m.types))
  where
    go : (l : List (TypeEntry Label)) (y : ℕ) → All (λ e. IsErased e.type) l → IsErased (unwrap_or (option_map (λ (e : TypeEntry Label). e.type) (slice_get l y)) no_function_type)
    go [] y h = refl
    go (e ∷ l) zero h = All-head (λ (e : TypeEntry Label). IsErased e.type) e l h
    go (e ∷ l) (suc y) h = go l y (All-tail (λ (e : TypeEntry Label). IsErased e.type) e l h)

users_erased : (t : ℕ) (parts : List LinkedModule) → All IsErased (users_of (map erase_linked parts) t)
users_erased t parts =
    all_flat IsErased (λ p. cond (has_table t p) (users_in p.tree) []) (map erase_linked parts)
    (every (λ p. All IsErased (cond (has_table t p) (users_in p.tree) [])) erase_linked parts (λ q. by (has_table t (erase_linked q)) q))
  where
    by : (b : Bool) (q : LinkedModule) → All IsErased (cond b (users_in (erase_module q.tree)) [])
    by true q = every IsErased (type_named (erase_module q.tree)) (user_entries (erase_module q.tree)) (λ y. type_erased q.tree y)
    by false q = All-nil IsErased

unmixed : (users : List (FunctionType Label)) → All IsErased users → AreUnmixed users
unmixed users h i j d lt within = λ e. sym (h i d (omega (arith, lt, within))) ∙ e ∙ h j d within

-- ---- sizes

pages_same : (o : Option (MemoryType Label)) → pages_of (option_map erase_memory_type o) ≡ pages_of o
pages_same None = refl
pages_same (Some t) = refl

sums_mapped : {A B : Type 0} (g : B → ℕ) (h : A → ℕ) (f : A → B) → ((a : A) → g (f a) ≡ h a) → (xs : List A) → sum_by g (map f xs) ≡ sum_by h xs
sums_mapped g h f e [] = refl
sums_mapped g h f e (x ∷ xs) = omega (arith, sum_by-cons g (f x) (map f xs), sum_by-cons h x xs, e x, sums_mapped g h f e xs)

-- ---- the whole set

first_of : {A : Type 0} (P : A → Type 0) (front : List A) (a : A) (rest : List A) → All P (front ++ a ∷ rest) → P a
first_of P [] a rest h = All-head P a rest h
first_of P (b ∷ front) a rest h = first_of P front a rest (All-tail P b (front ++ a ∷ rest) h)

pub matching_erased : (set : ModuleSet) → AreMatching set → AllValid set → AreMatching (erase_set set)
matching_erased set m v = record {
  names = pairs_map (λ p q. p.name ≢ q.name) erase_named set m.names;
  imports = imports_met;
  tables = λ table lt. subst (λ (l : List LinkedModule). AreUnmixed (users_of l table)) (sym (linked_erased set)) (unmixed (users_of (map erase_linked (linked set)) table) (users_erased table (linked set)));
  pages = let same = sums_mapped (λ (p : NamedModule). pages_of p.tree.memory) (λ p. pages_of p.tree.memory) erase_named (λ p. pages_same p.tree.memory) set in let few = m.pages in omega (arith, same, few);
  entries = let same = sums_mapped (λ (p : NamedModule). entries_of p.tree.table) (λ p. entries_of p.tree.table) erase_named (λ p. refl) set in let few = m.entries in omega (arith, same, few);
}
  where
    imports_met : (before behind : ModuleSet) (p : NamedModule) → erase_set set ≡ before ++ p ∷ behind → All (IsMet before p.tree) p.tree.imports
    imports_met before behind p e =
        let s = split_map erase_named set before p behind e in
        let all = subst AllValid s.all v in
        let front = all_front (λ (p : NamedModule). IsValid p.tree) s.start (s.here ∷ s.rest) all in
        let valid = first_of (λ (p : NamedModule). IsValid p.tree) s.start s.here s.rest all in
        let tree = s.here.tree in
        let met = m.imports s.start s.rest s.here s.all in
        let there : All (IsMet (erase_set s.start) (erase_module tree)) (erase_module tree).imports =
        All-map (IsMet (erase_set s.start) (erase_module tree)) (erase_import tree.types) tree.imports
        (All-weaker (IsMet s.start tree) (λ i. IsMet (erase_set s.start) (erase_module tree) (erase_import tree.types i)) (λ i h. met_erased s.start tree i front (variants_fit tree.types valid.around.types) h) tree.imports met) in
        subst (λ (b : ModuleSet). All (IsMet b p.tree) p.tree.imports) (sym s.mapped) (subst (λ (q : NamedModule). All (IsMet (erase_set s.start) q.tree) q.tree.imports) (sym s.is) there)
