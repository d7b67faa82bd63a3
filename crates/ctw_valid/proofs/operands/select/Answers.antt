use Rattle.std.proofs.Common.{◌∙◌}
use Rattle.std.proofs.lemmas.Result.{err_from_is_err_and}
use Rattle.ctw_ops.specs.declared.types.Width.TheVariants.{W32}
use Rattle.ctw_ops.specs.Types.{value_type}
use Rattle.ctw_stack.specs.Steps.{expect, chosen}
use Rattle.ctw_valid.specs.Faults.{same_label}
use Rattle.ctw_valid.proofs.OnStack.{then_same}
use Rattle.ctw_valid.proofs.operands.select.Goals as goal

pub returns-in_err-choose-clause-step : goal.returns-in_err-choose-clause-step
returns-in_err-choose-clause-step c =
    let l = c.args.label in
    let t = then_same (expect same_label (value_type W32 l)) (chosen same_label l) c.args.stack.now c.expect.new.stack c.in_ok-expect.ensures.step in
    let p = err_from_is_err_and c.from_residual-in_err-choose.result c.from_residual-in_err-choose.ensures.1 in
    rw (p.1, p.2) (λ n. let q = c.in_err-choose.ensures.step n in (t ∙ q.0, q.1))
