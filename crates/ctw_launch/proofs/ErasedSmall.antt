-- Erased modules are within the same limits, and so are erased sets.
use Rattle.std.proofs.Common.{◌≤◌, ◌<◌, ℕ, List, [], ◌∷◌, length, Option, Some, None, All, subst, sym}
use Rattle.std.specs.List.{cons_option}
use Rattle.std.proofs.lemmas.List.{length-map}
use Rattle.std.proofs.lemmas.List.Elements.{All-nil, All-cons, All-head, All-tail, All-map, All-weaker}
use Rattle.ctw_ops.specs.declared.types.Label.{Label}
use Rattle.ctw_ops.specs.Types.{erase_value_type, erase_function_type}
use Rattle.ctw_ops.specs.Tree.{Module, Function, Segment, TypeEntry}
use Rattle.ctw_ops.specs.Erasure.{kept_entry, erase_entries, erase_function, erase_segment, erase_module}
use Rattle.ctw_ops.specs.Valid.{IsValid}
use Rattle.ctw_ops.specs.Limits.{most_params, most_locals}
use Rattle.ctw_link.specs.Sets.{NamedModule, ModuleSet}
use Rattle.ctw_link.specs.SetInstances.{AllValid}
use Rattle.ctw_ops.specs.WithinLimits.{IsWithinLimits}
use Rattle.ctw_link.specs.Sets.{AllWithinLimits}
use Rattle.ctw_launch.specs.ErasedSets.{erase_named, erase_set}
use Rattle.ctw_launch.proofs.ErasedValid.{valid_erased}

abbrev HasFew : TypeEntry Label → Type 0
HasFew entry = length entry.type.params ≤ most_params

abbrev HasFewLocals : Function Label → Type 0
HasFewLocals f = length f.locals ≤ most_locals

abbrev HasBytes : Segment Label → Type 0
HasBytes d = All (λ byte. byte < 256) d.bytes

few_erased : (types : List (TypeEntry Label)) → All HasFew types → All HasFew (erase_entries types)
few_erased [] h = All-nil HasFew
few_erased (d ∷ ds) h = go d.base (All-head HasFew d ds h) (few_erased ds (All-tail HasFew d ds h))
  where
    go : (b : Option ℕ) → HasFew d → All HasFew (erase_entries ds) → All HasFew (cons_option (kept_entry b d.type) (erase_entries ds))
    go None few others =
        All-cons HasFew (record { base = None; type = erase_function_type d.type }) (erase_entries ds) (subst (λ (n : ℕ). n ≤ most_params) (sym (length-map d.type.params erase_value_type)) few) others
    go (Some base) few others = others

pub small_erased : (m : Module Label) → IsWithinLimits m → IsWithinLimits (erase_module m)
small_erased m s = record {
  params = few_erased m.types s.params;
  locals = All-map HasFewLocals (erase_function m.types) m.functions (All-weaker HasFewLocals (λ f. HasFewLocals (erase_function m.types f)) (λ f few. subst (λ (n : ℕ). n ≤ most_locals) (sym (length-map f.locals erase_value_type)) few) m.functions s.locals);
  bytes = All-map HasBytes erase_segment m.segments s.bytes;
}

pub all_valid_erased : (set : ModuleSet) → AllValid set → AllValid (erase_set set)
all_valid_erased set v = All-map (λ (p : NamedModule). IsValid p.tree) erase_named set (All-weaker (λ (p : NamedModule). IsValid p.tree) (λ p. IsValid (erase_module p.tree)) (λ p w. valid_erased p.tree w) set v)

pub all_small_erased : (set : ModuleSet) → AllWithinLimits set → AllWithinLimits (erase_set set)
all_small_erased set s = All-map (λ (p : NamedModule). IsWithinLimits p.tree) erase_named set (All-weaker (λ (p : NamedModule). IsWithinLimits p.tree) (λ p. IsWithinLimits (erase_module p.tree)) (λ p w. small_erased p.tree w) set s)
