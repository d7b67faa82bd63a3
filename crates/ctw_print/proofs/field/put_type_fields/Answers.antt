use Rattle.std.proofs.Common.{◌≡◌, Some}
use Rattle.std.specs.Prelude.{slice_get}
use Rattle.std.specs.String.{string_bytes}
use Rattle.ctw_ops.specs.Tree.{TypeEntry}
use Rattle.ctw_ops.specs.declared.types.Label.{Label}
use Rattle.ctw_module.specs.Trees.{tree}
use Rattle.ctw_print.specs.Texts.{type_line}
use Rattle.ctw_print.proofs.Listed.{listed_next}
use Rattle.ctw_print.proofs.Shown.{entry_is}
use Rattle.ctw_print.proofs.field.put_type_fields.Goals as goal

pub loop-i-preserved : goal.loop-i-preserved
loop-i-preserved c =
    let m = tree c.args.m.now in
    let entry : TypeEntry Label = record { base = c.variant_of-base.result; type = c.func_type-ty.result } in
    let there : slice_get m.types c.loop-i.i ≡ Some entry = entry_is m c.loop-i.i c.variant_of-base.result c.func_type-ty.result c.variant_of-base.ensures c.func_type-ty.ensures in
    listed_next type_line m.types c.loop-i.i entry (string_bytes c.args.out.now) (string_bytes c.loop-i.out) (string_bytes c.put_type_field.new.out) there c.in_ok-put_type_field.ensures c.loop-i.invariant
