use Rattle.std.proofs.Common.{◌≡◌, ◌++◌, List, ℕ, length, ap, ◌∙◌, arith}
use Rattle.ctw_ops.specs.ValueType.{ValueType}
use Rattle.ctw_ops.specs.Types.{FunctionType, byte_types}
use Rattle.ctw_ops.specs.declared.types.Label.{Label}
use Rattle.ctw_form.proofs.Params.{types_length}
use Rattle.ctw_write.specs.Canon.{vector_text, type_text}
use Rattle.ctw_write.proofs.Listed.{params_sized}
use Rattle.ctw_write.proofs.Walked.{on_ok}
use Rattle.ctw_place.proofs.item.put_params.Goals as goal

pub put_sized-requires : goal.put_sized-requires
put_sized-requires c =
    let seen : byte_types c.ty.inside.params.now ≡ c.args.ty.now.params = ap (λ (t : FunctionType Label). t.params) c.ty.view_is in
    omega (arith, types_length c.ty.inside.params.now c.ty.invariant, ap length seen, c.requires)

pub returns : goal.returns
returns c =
    let seen : byte_types c.ty.inside.params.now ≡ c.args.ty.now.params = ap (λ (t : FunctionType Label). t.params) c.ty.view_is in
    let text = params_sized c.ty.inside.params.now c.ty.invariant ∙ ap (λ (l : List (ValueType Label)). vector_text type_text l) seen in
    on_ok c.put_sized.result (λ e. e ∙ ap (λ (l : List ℕ). c.args.out.now.items ++ l) text) c.put_sized.ensures.put
