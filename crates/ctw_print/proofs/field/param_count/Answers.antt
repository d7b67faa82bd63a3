use Rattle.std.proofs.Common.{◌≡◌, length, sym, ap, ◌∙◌}
use Rattle.ctw_ops.specs.Types.{FunctionType, byte_types}
use Rattle.ctw_ops.specs.declared.types.Label.{Label}
use Rattle.ctw_form.proofs.Params.{types_length}
use Rattle.ctw_print.proofs.field.param_count.Goals as goal

pub returns : goal.returns
returns c =
    let seen : byte_types c.ty.inside.params.now ≡ c.args.ty.now.params = ap (λ (t : FunctionType Label). t.params) c.ty.view_is in
    sym (types_length c.ty.inside.params.now c.ty.invariant) ∙ ap length seen
