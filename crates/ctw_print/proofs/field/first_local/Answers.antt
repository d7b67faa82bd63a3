use Rattle.std.proofs.Common.{ℕ, length, ap, ◌∙◌, arith}
use Rattle.ctw_ops.specs.Tree.{type_named}
use Rattle.ctw_ops.specs.Types.{FunctionType}
use Rattle.ctw_ops.specs.declared.types.Label.{Label}
use Rattle.ctw_module.specs.Trees.{tree}
use Rattle.ctw_print.proofs.Shown.{named_within, use_named}
use Rattle.ctw_print.proofs.field.first_local.Goals as goal

pub type_of_func-requires : goal.type_of_func-requires
type_of_func-requires c = (named_within (tree c.args.m.now) c.args.f c.requires.0 c.requires.1).1

pub func_type-ty-requires : goal.func_type-ty-requires
func_type-ty-requires c = omega (arith, c.requires.2, use_named (tree c.args.m.now) c.args.f c.type_of_func.result c.requires.0 c.requires.1 c.type_of_func.ensures)

pub returns : goal.returns
returns c function e =
    let m = tree c.args.m.now in
    let same = use_named m c.args.f c.type_of_func.result function e c.type_of_func.ensures in
    c.param_count.ensures ∙ ap (λ (t : FunctionType Label). length t.params) c.func_type-ty.ensures ∙ ap (λ (i : ℕ). length (type_named m i).params) same
