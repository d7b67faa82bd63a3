-- The function instances by their owners.
use Rattle.std.proofs.Common.{◌≡◌, ℕ, ◌+◌, ◌-◌, Bool, false, List, [], ◌∷◌, ◌++◌, length, map, flat_map, slice_get, Option, Some, None, option_map, option_and_then, nat_lt, refl, sym, ap, ap₂, ◌∙◌, append_assoc, arith}
use Rattle.std.specs.Prelude.{if◌then◌else◌}
use Rattle.std.specs.List.{range_with_len}
use Rattle.std.proofs.lemmas.Bool.Decides.{nat_tests}
use Rattle.std.proofs.lemmas.List.{map-append, length_push, length-map}
use Rattle.std.proofs.lemmas.Option.{slice_get-map}
use Rattle.ctw_ops.specs.declared.types.Label.{Label}
use Rattle.ctw_ops.specs.Tree.{Module, Function}
use Rattle.ctw_semantics.specs.Instances.{FunctionInstance}
use Rattle.ctw_semantics.specs.Modules.{instance_of}
use Rattle.ctw_module.specs.Lookup.{imported_count, function_named}
use Rattle.ctw_link.specs.Sets.{ModuleSet}
use Rattle.ctw_link.specs.Numbers.{LinkedModule, linked, owned, owners_from, owners}
use Rattle.ctw_link.specs.SetInstances.{module_instance, instances_in, set_instances, instance_at}
use Rattle.ctw_link.proofs.LinkedFronts.{bare, bare_linked}
use Rattle.ctw_link.proofs.Lists.{skipped}

named_at : (m : Module Label) (front rest : List (Function Label)) (f : Function Label) (index : ℕ) → m.functions ≡ front ++ f ∷ rest → index ≡ imported_count m + length front → function_named m index ≡ Some f
named_at m front rest f index e n =
    let past : nat_lt index (imported_count m) ≡ false = grind (arith, nat_tests, n) in
    let place : index - imported_count m ≡ length front = omega (arith, n) in
    ap (λ (b : Bool). if b then None else slice_get m.functions (index - imported_count m)) past
    ∙ ap₂ (λ (l : List (Function Label)) (i : ℕ). slice_get l i) e place
    ∙ skipped front (f ∷ rest) 0 (length front) (omega arith)

part_owned : (parts : List LinkedModule) (k : ℕ) (p : LinkedModule) → slice_get parts k ≡ Some p → (front rest : List (Function Label)) (first : ℕ) → p.tree.functions ≡ front ++ rest → first ≡ imported_count p.tree + length front
    → map (instance_at parts) (map (λ index. (k, index)) (range_with_len first (length rest))) ≡ map (λ fn. Some fn) (map (instance_of (module_instance p) p.tree) rest)
part_owned parts k p is front [] first e n = refl
part_owned parts k p is front (f ∷ rest) first e n =
    let here : instance_at parts (k, first) ≡ Some (instance_of (module_instance p) p.tree f) =
    ap (option_and_then (λ (p : LinkedModule). option_map (instance_of (module_instance p) p.tree) (function_named p.tree first))) is ∙ ap (option_map (instance_of (module_instance p) p.tree)) (named_at p.tree front rest f first e n) in
    let others = part_owned parts k p is (front ++ f ∷ []) rest (first + 1) (e ∙ sym (append_assoc front (f ∷ []) rest)) (omega (arith, n, length_push front f)) in
    ap₂ (λ (o : Option FunctionInstance) (l : List (Option FunctionInstance)). o ∷ l) here others

at_end : {A : Type 0} (done rest : List A) (a : A) → slice_get (done ++ a ∷ rest) (length done) ≡ Some a
at_end done rest a = skipped done (a ∷ rest) 0 (length done) (omega arith)

all_owned : (parts done rest : List LinkedModule) (k : ℕ) → parts ≡ done ++ rest → k ≡ length done → map (instance_at parts) (owners_from k (map bare rest)) ≡ map (λ fn. Some fn) (flat_map instances_in rest)
all_owned parts done [] k e n = refl
all_owned parts done (p ∷ rest) k e n =
    let is : slice_get parts k ≡ Some p = ap₂ (λ (l : List LinkedModule) (i : ℕ). slice_get l i) e n ∙ at_end done rest p in
    let here = part_owned parts k p is [] p.tree.functions (imported_count p.tree) refl (omega arith) in
    let others = all_owned parts (done ++ p ∷ []) rest (k + 1) (e ∙ sym (append_assoc done (p ∷ []) rest)) (omega (arith, n, length_push done p)) in
    map-append (instance_at parts) (owned k p.tree) (owners_from (k + 1) (map bare rest))
    ∙ ap₂ (λ (xs ys : List (Option FunctionInstance)). xs ++ ys) here others
    ∙ sym (map-append (λ (fn : FunctionInstance). Some fn) (instances_in p) (flat_map instances_in rest))

-- the instance of a function's number is that of its owner's function
pub owner_instance : (set : ModuleSet) (f : ℕ) (owner : ℕ × ℕ) → slice_get (owners set) f ≡ Some owner → slice_get (set_instances set) f ≡ instance_at (linked set) owner
owner_instance set f owner e =
    let all : map (instance_at (linked set)) (owners set) ≡ map (λ (fn : FunctionInstance). Some fn) (set_instances set) =
    ap (λ (l : ModuleSet). map (instance_at (linked set)) (owners_from 0 l)) (sym (bare_linked set)) ∙ all_owned (linked set) [] (linked set) 0 refl refl in
    let here : Some (instance_at (linked set) owner) ≡ option_map (λ (fn : FunctionInstance). Some fn) (slice_get (set_instances set) f) =
    sym (slice_get-map (instance_at (linked set)) (owners set) f ∙ ap (option_map (instance_at (linked set))) e) ∙ ap (λ (l : List (Option FunctionInstance)). slice_get l f) all ∙ slice_get-map (λ (fn : FunctionInstance). Some fn) (set_instances set) f in
    go (slice_get (set_instances set) f) (instance_at (linked set) owner) here
  where
    go : (o : Option FunctionInstance) (x : Option FunctionInstance) → ◌≡◌ {A = Option (Option FunctionInstance)} (Some x) (option_map (λ (fn : FunctionInstance). Some fn) o) → o ≡ x
    go None x q = absurd cc
    go (Some fn) x q = cc

pub instances_count : (set : ModuleSet) → length (set_instances set) ≡ length (owners set)
instances_count set =
    let all : map (instance_at (linked set)) (owners set) ≡ map (λ (fn : FunctionInstance). Some fn) (set_instances set) =
    ap (λ (l : ModuleSet). map (instance_at (linked set)) (owners_from 0 l)) (sym (bare_linked set)) ∙ all_owned (linked set) [] (linked set) 0 refl refl in
    sym (length-map (set_instances set) (λ (fn : FunctionInstance). Some fn)) ∙ ap length (sym all) ∙ length-map (owners set) (instance_at (linked set))
