use Rattle.std.proofs.Common.{◌-◌, arith}
use Rattle.std.proofs.lemmas.Result.{err_from_is_err_and}
use Rattle.ctw_valid.proofs.OnStack.{one_taken, none_taken}
use Rattle.ctw_valid.proofs.operands.expect_params.Goals as goal

pub back-preserved : goal.back-preserved
back-preserved c =
    let s = c.in_ok-expect_optional.ensures.step in
    let e = rw c.type_of_byte.ensures at s in
    one_taken c.args.params.now (c.back.left - 1) c.back.left c.args.stack.now c.back.stack c.expect_optional.new.stack (omega (arith, c.back-test.true)) c.back.invariant.inside c.back.invariant e c.in_ok-expect_optional.ensures.kept

pub returns-in_err-expect_optional-clause-step : goal.returns-in_err-expect_optional-clause-step
returns-in_err-expect_optional-clause-step c =
    let s = c.in_err-expect_optional.ensures.step in
    let e = rw c.type_of_byte.ensures at s in
    let p = err_from_is_err_and c.from_residual.result c.from_residual.ensures.1 in
    rw (p.1, p.2) (λ n. let q = e n in (none_taken c.args.params.now (c.back.left - 1) c.back.left c.args.stack.now c.back.stack (omega (arith, c.back-test.true)) c.back.invariant.inside c.back.invariant q.0, q.1))
