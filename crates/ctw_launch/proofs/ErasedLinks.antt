-- Erasing and linking commute: all numbers stay, and the instances of the erased set are the erased instances.
use Rattle.std.proofs.Common.{◌≡◌, ℕ, Bool, true, false, cond, List, [], ◌∷◌, ◌++◌, map, flat_map, filter_map, fold, find, Option, Some, None, option_map, option_and_then, unwrap_or, All, refl, sym, ap, ap₂, ◌∙◌, arith}
use Rattle.std.specs.Prelude.{if◌then◌else◌}
use Rattle.std.specs.List.{cons_option, range_with_len}
use Rattle.std.specs.Str.{bytes_eq}
use Rattle.std.proofs.lemmas.List.{length-map, map-append}
use Rattle.std.proofs.lemmas.List.Elements.{All-head, All-tail}
use Rattle.std.proofs.lemmas.List.Sums.{sum_by-cons}
use Rattle.ctw_ops.specs.declared.types.Label.{Label}
use Rattle.ctw_ops.specs.declared.types.ExternTag.{ExternTag}
use Rattle.ctw_ops.specs.declared.types.ExternTag.TheVariants as tag
use Rattle.ctw_ops.specs.Types.{MemoryType}
use Rattle.ctw_ops.specs.Tree.{Module, Function, TypeEntry, Extern, ImportedFunction, ImportedTable, ImportedMemory, ImportedGlobal, Import}
use Rattle.ctw_ops.specs.Erasure.{erase_memory_type, erase_extern, erase_import, erase_function, erase_global, erase_module}
use Rattle.ctw_ops.specs.Valid.{IsValid}
use Rattle.ctw_semantics.specs.Instances.{FunctionInstance, Functions}
use Rattle.ctw_semantics.specs.Modules.{instance_of}
use Rattle.ctw_semantics.specs.Erased.{erase_instance, erase_functions}
use Rattle.ctw_semantics.proofs.Modules.{instance_erased}
use Rattle.ctw_link.specs.Sets.{NamedModule, ModuleSet, one_or_none, defined_in}
use Rattle.ctw_ops.specs.Equal.{same_tag}
use Rattle.ctw_link.specs.Numbers.{LinkedModule, is_named, exported_number, import_number, tag_of, number_if, defined_before, numbers_behind, linked_module, with_linked, linked}
use Rattle.ctw_link.specs.SetInstances.{module_instance, instances_in, set_instances, AllValid}
use Rattle.ctw_launch.specs.ErasedSets.{erase_named, erase_set}
use Rattle.ctw_launch.proofs.Parts.{valid_linked}
use Rattle.ctw_ops.proofs.Variants.{VariantsFit, variants_fit}

abbrev pub erase_linked : LinkedModule → LinkedModule
erase_linked q = record q { tree = erase_module q.tree }

-- ---- numbers

find_erased : (name : List ℕ) (l : List LinkedModule) → find (is_named name) (map erase_linked l) ≡ option_map erase_linked (find (is_named name) l)
find_erased name [] = refl
find_erased name (q ∷ l) = go (bytes_eq q.name name) (find_erased name l)
  where
    go : (b : Bool) → find (is_named name) (map erase_linked l) ≡ option_map erase_linked (find (is_named name) l)
        → cond b (Some (erase_linked q)) (find (is_named name) (map erase_linked l)) ≡ option_map erase_linked (cond b (Some q) (find (is_named name) l))
    go true h = refl
    go false h = h

number_erased : (before : List LinkedModule) (entries : List (TypeEntry Label)) (i : Import Label) → import_number (map erase_linked before) (erase_import entries i) ≡ import_number before i
number_erased before entries i = ap (λ (o : Option LinkedModule). unwrap_or (option_and_then (exported_number i.name) o) 0) (find_erased i.module_name before) ∙ by (find (is_named i.module_name) before)
  where
    by : (o : Option LinkedModule) → unwrap_or (option_and_then (exported_number i.name) (option_map erase_linked o)) 0 ≡ unwrap_or (option_and_then (exported_number i.name) o) 0
    by None = refl
    by (Some q) = refl

pub tag_erased : (entries : List (TypeEntry Label)) (e : Extern Label) → tag_of (erase_extern entries e) ≡ tag_of e
tag_erased entries (ImportedFunction type) = refl
tag_erased entries (ImportedTable limits) = refl
tag_erased entries (ImportedMemory type) = refl
tag_erased entries (ImportedGlobal type) = refl

imported_erased : (t : ExternTag) (before : List LinkedModule) (entries : List (TypeEntry Label)) (l : List (Import Label)) → filter_map (number_if t (map erase_linked before)) (map (erase_import entries) l) ≡ filter_map (number_if t before) l
imported_erased t before entries [] = refl
imported_erased t before entries (i ∷ l) =
    ap₂ (λ (o : Option ℕ) (ns : List ℕ). cons_option o ns)
    (ap₂ (λ (k : ExternTag) (n : ℕ). if same_tag t k then Some n else None) (tag_erased entries i.kind) (number_erased before entries i))
    (imported_erased t before entries l)

one_erased : (o : Option (MemoryType Label)) → one_or_none (option_map erase_memory_type o) ≡ one_or_none o
one_erased None = refl
one_erased (Some t) = refl

pub defined_erased : (t : ExternTag) (m : Module Label) → defined_in t (erase_module m) ≡ defined_in t m
defined_erased tag.Func m = length-map m.functions (erase_function m.types)
defined_erased tag.Table m = refl
defined_erased tag.Memory m = one_erased m.memory
defined_erased tag.Global m = length-map m.globals erase_global

before_erased : (t : ExternTag) (before : List LinkedModule) → defined_before t (map erase_linked before) ≡ defined_before t before
before_erased t [] = refl
before_erased t (q ∷ before) =
    let here = defined_erased t q.tree in
    omega (arith, here, before_erased t before, sum_by-cons (λ (p : LinkedModule). defined_in t p.tree) q before, sum_by-cons (λ (p : LinkedModule). defined_in t p.tree) (erase_linked q) (map erase_linked before))

behind_erased : (t : ExternTag) (before : List LinkedModule) (m : Module Label) → numbers_behind t (map erase_linked before) (erase_module m) ≡ numbers_behind t before m
behind_erased t before m =
    ap₂ (λ (xs ys : List ℕ). xs ++ ys) (imported_erased t before m.types m.imports) (ap₂ (λ (start count : ℕ). range_with_len start count) (before_erased t before) (defined_erased t m))

abbrev made : NamedModule → List ℕ → List ℕ → List ℕ → List ℕ → LinkedModule
made p fs ts ms gs = record { name = p.name; tree = p.tree; numbers = record { functions = fs; tables = ts; memories = ms; globals = gs } }

module_erased : (before : List LinkedModule) (p : NamedModule) → linked_module (map erase_linked before) (erase_named p) ≡ erase_linked (linked_module before p)
module_erased before p =
    let m = p.tree in
    let all = map erase_linked before in
    let q = erase_named p in
    ap₂ (λ (fs ts : List ℕ). made q fs ts (numbers_behind tag.Memory all q.tree) (numbers_behind tag.Global all q.tree)) (behind_erased tag.Func before m) (behind_erased tag.Table before m)
    ∙ ap₂ (λ (ms gs : List ℕ). made q (numbers_behind tag.Func before m) (numbers_behind tag.Table before m) ms gs) (behind_erased tag.Memory before m) (behind_erased tag.Global before m)

links_erased : (before : List LinkedModule) (set : ModuleSet) → fold with_linked (map erase_linked before) (erase_set set) ≡ map erase_linked (fold with_linked before set)
links_erased before [] = refl
links_erased before (p ∷ set) =
    ap (λ (l : List LinkedModule). fold with_linked l (erase_set set))
    (ap (λ (q : LinkedModule). map erase_linked before ++ q ∷ []) (module_erased before p) ∙ sym (map-append erase_linked before (linked_module before p ∷ [])))
    ∙ links_erased (with_linked before p) set

pub linked_erased : (set : ModuleSet) → linked (erase_set set) ≡ map erase_linked (linked set)
linked_erased set = links_erased [] set

-- ---- instances

pub flat_over : {A B C : Type 0} (f : B → List C) (g : A → B) (xs : List A) → flat_map f (map g xs) ≡ flat_map (λ a. f (g a)) xs
flat_over f g [] = refl
flat_over {A} {B} {C} f g (x ∷ xs) = ap (λ (l : List C). f (g x) ++ l) (flat_over f g xs)

instances_here : (q : LinkedModule) (fs : List (Function Label)) → VariantsFit q.tree.types
    → map (instance_of (module_instance (erase_linked q)) (erase_module q.tree)) (map (erase_function q.tree.types) fs) ≡ map erase_instance (map (instance_of (module_instance q) q.tree) fs)
instances_here q [] fit = refl
instances_here q (f ∷ fs) fit =
    ap₂ (λ (fn : FunctionInstance) (fns : Functions). fn ∷ fns) (sym (instance_erased (module_instance q) q.tree f fit)) (instances_here q fs fit)

instances_all : (parts : List LinkedModule) → All (λ q. IsValid q.tree) parts → flat_map instances_in (map erase_linked parts) ≡ map erase_instance (flat_map instances_in parts)
instances_all [] v = refl
instances_all (q ∷ parts) v =
    let valid = All-head (λ (q : LinkedModule). IsValid q.tree) q parts v in
    ap₂ (λ (xs ys : Functions). xs ++ ys) (instances_here q q.tree.functions (variants_fit q.tree.types valid.around.types)) (instances_all parts (All-tail (λ (q : LinkedModule). IsValid q.tree) q parts v))
    ∙ sym (map-append erase_instance (instances_in q) (flat_map instances_in parts))

pub set_erased : (set : ModuleSet) → AllValid set → set_instances (erase_set set) ≡ erase_functions (set_instances set)
set_erased set v = ap (λ (l : List LinkedModule). flat_map instances_in l) (linked_erased set) ∙ instances_all (linked set) (valid_linked set v)
