use Rattle.std.proofs.lemmas.Result.{err_from_is_err_and}
use Rattle.ctw_form.specs.Read.{insides_at, contents_at}
use Rattle.ctw_form.proofs.SizedWindows.{sized_ok, sized_short}
use Rattle.ctw_read.proofs.CodeLoops.{sized_fails}
use Rattle.ctw_read.proofs.sections.contents.Goals as goal

pub returns-in_err-window : goal.returns-in_err-window
unfolding contents_at
returns-in_err-window c =
    let p = err_from_is_err_and c.from_residual.result c.from_residual.ensures.1 in
    rw (p.1, p.2) (sized_short (insides_at c.args.ct c.args.seen c.args.kind) c.args.cursor.now c.in_err-window.field-0.0 c.in_err-window.ensures)

pub returns-in-Ok : goal.returns-in-Ok
unfolding contents_at
returns-in-Ok c =
    let f = c.in-Ok.ensures in
    (f.0, sized_ok (insides_at c.args.ct c.args.seen c.args.kind) c.args.cursor.now c.in_ok-window.window c.window.new.cursor f.0 c.in_ok-window.ensures f.1, f.2)

pub returns-in-Err : goal.returns-in-Err
unfolding contents_at
returns-in-Err c =
    rw c.inside_fault.ensures (sized_fails (insides_at c.args.ct c.args.seen c.args.kind) c.args.cursor.now c.in_ok-window.window c.window.new.cursor c.in-Err.fault c.in_ok-window.ensures c.in-Err.ensures)
