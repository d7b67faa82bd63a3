use Rattle.std.proofs.Common.{◌∙◌, length, sym, ap, arith}
use Rattle.ctw_module.specs.Trees.{tree}
use Rattle.ctw_sites.proofs.ScopeLaws.{few_params}
use Rattle.ctw_form.proofs.Params.{types_length}
use Rattle.ctw_marks.proofs.place.param_count.Goals as goal

pub overflow_cast-result : goal.overflow_cast-result
overflow_cast-result c =
    let l = types_length c.ty.inside.params.now c.ty.invariant in
    let v = ap (λ z. length z.params) (c.ty.view_is ∙ c.func_type-ty.ensures) in
    let f = few_params (tree c.args.m.now) c.args.y c.bytes.ensures.limits in
    omega (arith, l, v, f)

pub returns : goal.returns
returns c = sym (types_length c.ty.inside.params.now c.ty.invariant) ∙ ap (λ z. length z.params) (c.ty.view_is ∙ c.func_type-ty.ensures)
