-- Functions of untrusted types.
use Rattle.std.proofs.Common.{◌≡◌, ℕ, slice_get, Option, Some, None, option_map, unwrap_or, All, refl, sym, ap, subst, ◌∙◌}
use Rattle.std.proofs.lemmas.List.Elements.{All-weaker}
use Rattle.std.proofs.lemmas.Option.{slice_get-map}
use Rattle.ctw_ops.specs.declared.types.Label.{Label}
use Rattle.ctw_ops.specs.declared.types.Trust.TheVariants.{Untrusted}
use Rattle.ctw_ops.specs.Types.{FunctionType}
use Rattle.ctw_ops.specs.Tree.{Module, TypeEntry, no_function_type, type_named}
use Rattle.ctw_semantics.specs.Instances.{FunctionInstance}
use Rattle.ctw_semantics.specs.Sound.{AllUntrusted}
use Rattle.ctw_semantics.specs.Modules.{instance_of}
use Rattle.ctw_ops.proofs.Lists.{all_get}
use Rattle.ctw_link.specs.Sets.{NamedModule, ModuleSet}
use Rattle.ctw_link.specs.Numbers.{LinkedModule, linked}
use Rattle.ctw_link.specs.SetInstances.{module_instance, instances_in, set_instances}
use Rattle.ctw_link.proofs.LinkedFronts.{bare, bare_linked}
use Rattle.ctw_launch.proofs.Within.{all_flat, every, all_unmap}

abbrev IsPlain : Module Label → Type 0
IsPlain m = All (λ entry. entry.type.trust ≡ Untrusted) m.types

named_untrusted : (m : Module Label) (y : ℕ) → IsPlain m → (type_named m y).trust ≡ Untrusted
named_untrusted m y h = ap (λ (o : Option (FunctionType Label)). (unwrap_or o no_function_type).trust) (slice_get-map (λ (entry : TypeEntry Label). entry.type) m.types y) ∙ go (slice_get m.types y) refl
  where
    go : (o : Option (TypeEntry Label)) → slice_get m.types y ≡ o → (unwrap_or (option_map (λ (entry : TypeEntry Label). entry.type) o) no_function_type).trust ≡ Untrusted
    go None e = refl
    go (Some entry) e = all_get (λ (entry : TypeEntry Label). entry.type.trust ≡ Untrusted) m.types y entry h e

pub set_untrusted : (set : ModuleSet) → All (λ p. All (λ entry. entry.type.trust ≡ Untrusted) p.tree.types) set → AllUntrusted (set_instances set)
set_untrusted set h =
    let P : FunctionInstance → Type 0 = λ fn. fn.type.trust ≡ Untrusted in
    let parts = all_unmap (λ (p : NamedModule). IsPlain p.tree) bare (linked set) (subst (λ (l : ModuleSet). All (λ p. IsPlain p.tree) l) (sym (bare_linked set)) h) in
    all_flat (λ fn. fn.type.trust ≡ Untrusted) instances_in (linked set)
    (All-weaker (λ (q : LinkedModule). IsPlain q.tree) (λ q. All (λ fn. fn.type.trust ≡ Untrusted) (instances_in q)) (λ q plain. every (λ (fn : FunctionInstance). fn.type.trust ≡ Untrusted) (instance_of (module_instance q) q.tree) q.tree.functions (λ f. named_untrusted q.tree f.type plain)) (linked set) parts)
