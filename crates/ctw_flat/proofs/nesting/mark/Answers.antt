use Rattle.std.proofs.Common.{◌≡◌, length, arith, sym, subst}
use Rattle.std.proofs.lemmas.Bool.{eqb-true, eqb-false}
use Rattle.std.proofs.lemmas.Result.{err_from_is_err_and}
use Rattle.ctw_flat.specs.declared.fault.BuildFault.{BuildFault}
use Rattle.ctw_flat.specs.Bodies.{body_at}
use Rattle.ctw_flat.specs.Calls.{FailsWith}
use Rattle.ctw_flat.proofs.Balance.{start, step_shorter}
use Rattle.ctw_flat.proofs.Marks.{walk_goes, walk_fails, walk_done, walk_open, walk_stands}
use Rattle.ctw_flat.proofs.nesting.mark.Goals as goal

pub body-smaller : goal.body-smaller
body-smaller c =
    let s = c.in_ok-step.ensures in
    step_shorter c.body.nesting c.body.cursor c.step.new.cursor s.0 s.1

pub body-preserved : goal.body-preserved
body-preserved c =
    let s = c.in_ok-step.ensures in
    walk_goes c.args.code.now c.body.nesting c.step.new.nesting c.body.cursor c.step.new.cursor s.0 c.body.marks.items c.step.new.marks.items c.body.invariant s.1 s.2 s.3

pub returns-in_err-step-clause-checks : goal.returns-in_err-step-clause-checks
returns-in_err-step-clause-checks c =
    let p = err_from_is_err_and c.from_residual-in_err-step.result c.from_residual-in_err-step.ensures.1 in
    let h = walk_fails c.args.code.now c.body.nesting c.body.cursor c.body.marks.items c.in_err-step.field-0.0 (omega (arith, c.left.ensures.count)) c.body.invariant c.in_err-step.ensures in
    rw p.1 (subst (λ (e : BuildFault). FailsWith e (body_at (start c.args.code.now))) (sym p.2) h)

pub returns-then-is_closed-clause-checks : goal.returns-then-is_closed-clause-checks
returns-then-is_closed-clause-checks c =
    let closed : length c.body.nesting ≡ 0 = eqb-true _ _ (sym c.if-is_closed.ensures) in
    walk_done c.args.code.now c.body.nesting c.body.cursor c.body.marks.items (omega (arith, c.left.ensures.count)) closed c.body.invariant

pub returns-then-is_closed-clause-marks : goal.returns-then-is_closed-clause-marks
returns-then-is_closed-clause-marks c = walk_stands c.args.code.now c.body.nesting c.body.cursor c.body.marks.items (omega (arith, c.left.ensures.count)) c.body.invariant

pub returns-clause-checks : goal.returns-clause-checks
returns-clause-checks c =
    let filled = eqb-false _ _ (sym c.if-is_closed.ensures) in
    rw (c.unbalanced.ensures, c.place.ensures) (walk_open c.args.code.now c.body.nesting c.body.cursor c.body.marks.items (omega (arith, c.left.ensures.count)) (omega (arith, filled)) c.body.invariant)
