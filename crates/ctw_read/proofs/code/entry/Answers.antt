use Rattle.std.proofs.lemmas.Result.{err_from_is_err_and}
use Rattle.ctw_form.specs.Read.{entry_insides_at, code_entry_at}
use Rattle.ctw_form.proofs.SizedWindows.{sized_ok, sized_short}
use Rattle.ctw_read.proofs.CodeLoops.{sized_fails}
use Rattle.ctw_read.proofs.code.entry.Goals as goal

pub returns-in_err-window-clause-entry : goal.returns-in_err-window-clause-entry
unfolding code_entry_at
returns-in_err-window-clause-entry c =
    let p = err_from_is_err_and c.from_residual.result c.from_residual.ensures.1 in
    rw (p.1, p.2) (sized_short (entry_insides_at c.args.ct c.args.all) c.args.cursor.now c.in_err-window.field-0.0 c.in_err-window.ensures)

pub returns-in-Ok-clause-entry : goal.returns-in-Ok-clause-entry
unfolding code_entry_at
returns-in-Ok-clause-entry c =
    let f = c.in-Ok.ensures.entry in
    (f.0, sized_ok (entry_insides_at c.args.ct c.args.all) c.args.cursor.now c.in_ok-window.window c.window.new.cursor f.0 c.in_ok-window.ensures f.1, f.2)

pub returns-in-Err-clause-entry : goal.returns-in-Err-clause-entry
unfolding code_entry_at
returns-in-Err-clause-entry c =
    rw c.inside_fault.ensures (sized_fails (entry_insides_at c.args.ct c.args.all) c.args.cursor.now c.in_ok-window.window c.window.new.cursor c.in-Err.fault c.in_ok-window.ensures c.in-Err.ensures.entry)
