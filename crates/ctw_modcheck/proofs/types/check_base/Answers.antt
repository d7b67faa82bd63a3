use Rattle.std.proofs.Common.{◌∙◌, Some, ap, ap₂, sym}
use Rattle.ctw_module.specs.Trees.{tree}
use Rattle.ctw_ops.specs.Equal.{erases_alike}
use Rattle.ctw_modcheck.proofs.Variants.{entry_at, base_alike}
use Rattle.ctw_modcheck.proofs.types.check_base.Goals as goal

pub returns : goal.returns
returns c =
    let m = tree c.args.m.now in
    let h = entry_at m.types c.args.i _ (c.variant_of.ensures ∙ ap (λ o. Some o) c.in-Some.is) in
    let b = entry_at m.types c.in-Some.base c.variant_of-else-base-type_count.result c.variant_of-else-base-type_count.ensures in
    let e = sym c.if-not-erase_alike.ensures in
    base_alike m c.args.i c.in-Some.base c.variant_of-else-base-type_count.result h b (sym c.if-is_some.ensures) (ap₂ erases_alike (sym c.func_type.ensures) (sym c.func_type-2.ensures) ∙ e)
