use Rattle.std.proofs.Common.{◌≡◌, length, arith, sym, subst}
use Rattle.std.proofs.lemmas.Bool.{eqb-true, eqb-false}
use Rattle.std.proofs.lemmas.Result.{err_from_is_err_and}
use Rattle.ctw_form.specs.Read.{form_body_at}
use Rattle.ctw_form.proofs.SectionForms.{form_step_shorter}
use Rattle.ctw_read.specs.declared.fault.ReadFault.{ReadFault}
use Rattle.ctw_read.specs.Calls.{FailsWith}
use Rattle.ctw_read.proofs.CodeLoops.{body_goes, body_fails, body_done, body_open}
use Rattle.ctw_read.proofs.code.body.Goals as goal

pub body-smaller : goal.body-smaller
body-smaller c =
    let s = c.in_ok-step.ensures in
    form_step_shorter c.args.ct c.body.nesting c.body.cursor c.step.new.cursor s.0 s.1

pub body-preserved : goal.body-preserved
body-preserved c =
    let s = c.in_ok-step.ensures in
    body_goes c.args.ct c.args.cursor.now c.body.nesting c.step.new.nesting c.body.cursor c.step.new.cursor s.0 c.body.invariant s.1 s.2

pub returns-in_err-step : goal.returns-in_err-step
returns-in_err-step c =
    let p = err_from_is_err_and c.from_residual-in_err-step.result c.from_residual-in_err-step.ensures.1 in
    let h = body_fails c.args.ct c.args.cursor.now c.body.nesting c.body.cursor c.in_err-step.field-0.0 (omega (arith, c.left.ensures.count)) c.body.invariant c.in_err-step.ensures in
    rw p.1 (subst (λ (e : ReadFault). FailsWith e (form_body_at c.args.ct c.args.cursor.now)) (sym p.2) h)

pub returns-then-is_closed : goal.returns-then-is_closed
returns-then-is_closed c =
    let closed : length c.body.nesting ≡ 0 = eqb-true _ _ (sym c.if-is_closed.ensures) in
    let d = body_done c.args.ct c.args.cursor.now c.body.nesting c.body.cursor (omega (arith, c.left.ensures.count)) closed c.body.invariant in
    (d.0, d.1, tt)

pub returns : goal.returns
returns c =
    let filled = eqb-false _ _ (sym c.if-is_closed.ensures) in
    rw c.place.ensures (body_open c.args.ct c.args.cursor.now c.body.nesting c.body.cursor (omega (arith, c.left.ensures.count)) (omega (arith, filled)) c.body.invariant)
