use Rattle.std.proofs.Common.{map, ap, ◌∙◌}
use Rattle.std.proofs.lemmas.Result.{err_from_is_err_and}
use Rattle.ctw_form.specs.Shown.{global_in}
use Rattle.ctw_form.specs.Read.{global_at}
use Rattle.ctw_form.proofs.Listing.{items_step, items_fault, map_push}
use Rattle.ctw_form.proofs.lists.globals.Goals as goal

pub globals-preserved : goal.globals-preserved
globals-preserved c =
    items_step (global_at c.args.ct) c.in_ok-count.count c.number.new.cursor c.globals.counter c.globals.cursor c.global.new.cursor (map global_in c.globals.found.items) (map global_in c.push.new.self.items) (global_in c.in_ok-entry.entry) c.globals-test.true c.globals.invariant c.in_ok-entry.ensures
    (ap (map global_in) c.in_ok-push.ensures.items ∙ map_push global_in c.globals.found.items c.in_ok-entry.entry)

pub returns-in_err-entry : goal.returns-in_err-entry
returns-in_err-entry c =
    let p = err_from_is_err_and c.from_residual-in_err-entry.result c.from_residual-in_err-entry.ensures.1 in
    rw (p.1, p.2) (items_fault (global_at c.args.ct) c.in_ok-count.count c.args.cursor.now c.number.new.cursor c.globals.counter c.globals.cursor (map global_in c.globals.found.items) c.in_err-entry.field-0.0 c.in_ok-count.ensures c.globals-test.true c.globals.invariant c.in_err-entry.ensures)
