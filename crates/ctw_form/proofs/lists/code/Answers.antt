use Rattle.std.proofs.Common.{◌≡◌, length, sym, subst, arith}
use Rattle.std.proofs.lemmas.Result.{err_from_is_err_and}
use Rattle.ctw_form.specs.declared.lists.ListFault.{ListFault}
use Rattle.ctw_form.specs.Read.{code_entry_at}
use Rattle.ctw_form.specs.Gathered.{FailsToo}
use Rattle.ctw_form.proofs.Gathering.{code_no_window, code_fails, code_found}
use Rattle.ctw_form.proofs.lists.code.Goals as goal

pub returns-in_err-window-clause-entry : goal.returns-in_err-window-clause-entry
returns-in_err-window-clause-entry c =
    let p = err_from_is_err_and c.from_residual.result c.from_residual.ensures.1 in
    rw (p.1, p.2) (code_no_window c.args.ct c.args.all c.args.cursor.now c.in_err-window.field-0.0 c.in_err-window.ensures)

pub returns-in_err-all-clause-entry : goal.returns-in_err-all-clause-entry
returns-in_err-all-clause-entry c =
    let p = err_from_is_err_and c.from_residual-in_err-all.result c.from_residual-in_err-all.ensures.1 in
    rw p.1 (subst (λ (e : ListFault). FailsToo e (code_entry_at c.args.ct c.args.all c.args.cursor.now)) (sym p.2) (code_fails c.args.ct c.args.all c.args.cursor.now c.in_ok-window.window c.window.new.cursor c.in_err-all.field-0.0 c.in_ok-window.ensures c.in_err-all.ensures.locals))

pub returns-clause-entry : goal.returns-clause-entry
returns-clause-entry c =
    let g = c.in_ok-all.ensures.locals in
    let size : c.len.result ≡ length c.groups.new.runs.items = omega (arith, c.len.ensures) in
    λ e o h. code_found c.args.ct c.args.all c.args.cursor.now c.in_ok-window.window c.window.new.cursor c.groups.new.cursor o g.0 c.args.runs.now.items c.groups.new.runs.items (record { code = c.rest.result.now; runs = c.len.result }) c.in_ok-all.all e
    c.in_ok-window.ensures g.1 g.2.0 g.2.1 c.rest.ensures size h
