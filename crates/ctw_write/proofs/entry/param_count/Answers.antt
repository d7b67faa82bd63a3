use Rattle.std.proofs.Common.{◌<◌, ◌≤◌, ℕ, length, sym, ap, ◌∙◌, arith}
use Rattle.ctw_ops.specs.Types.{FunctionType}
use Rattle.ctw_ops.specs.Tree.{type_named}
use Rattle.ctw_ops.specs.declared.types.Label.{Label}
use Rattle.ctw_module.specs.Trees.{tree}
use Rattle.ctw_write.proofs.Running.{use_named, none_named, named_short}
use Rattle.ctw_write.proofs.entry.param_count.Goals as goal

pub params_of-requires : goal.params_of-requires
params_of-requires c =
    let m = tree c.args.m.now in
    let lt : c.type_of_func-index.result < length m.types = omega (arith, c.if-index-type_count.false, c.type_count.ensures) in
    omega (arith, named_short m c.type_of_func-index.result lt c.requires.short, ap (λ (t : FunctionType Label). length t.params) c.func_type-ty.ensures)

pub returns-then-index-type_count : goal.returns-then-index-type_count
returns-then-index-type_count c function e =
    let m = tree c.args.m.now in
    let past : length m.types ≤ c.type_of_func-index.result = omega (arith, c.if-index-type_count.true, c.type_count.ensures) in
    let same = use_named m c.args.f c.type_of_func-index.result function e c.type_of_func-index.ensures in
    sym (ap (λ (i : ℕ). length (type_named m i).params) same ∙ none_named m c.type_of_func-index.result past)

pub returns : goal.returns
returns c function e =
    let m = tree c.args.m.now in
    let same = use_named m c.args.f c.type_of_func-index.result function e c.type_of_func-index.ensures in
    c.params_of.ensures ∙ ap (λ (t : FunctionType Label). length t.params) c.func_type-ty.ensures ∙ ap (λ (i : ℕ). length (type_named m i).params) (sym same)
