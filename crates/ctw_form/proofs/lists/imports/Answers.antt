use Rattle.std.proofs.Common.{ap, ◌∙◌}
use Rattle.std.proofs.lemmas.Result.{err_from_is_err_and}
use Rattle.ctw_ops.specs.declared.types.Label.{Label}
use Rattle.ctw_ops.specs.Tree.{Import}
use Rattle.ctw_form.specs.Sections.{none_held, held_with, held_after}
use Rattle.ctw_form.specs.Read.{import_at}
use Rattle.ctw_form.proofs.Listing.{listed_step}
use Rattle.ctw_form.proofs.Gathering.{imports_fault}
use Rattle.ctw_form.proofs.lists.imports.Goals as goal

pub returns-in_err-entry : goal.returns-in_err-entry
returns-in_err-entry c =
    let p = err_from_is_err_and c.from_residual-in_err-entry.result c.from_residual-in_err-entry.ensures.1 in
    rw (p.1, p.2) (imports_fault c.args.ct c.in_ok-count.count c.args.cursor.now c.number.new.cursor c.imports.counter c.imports.held c.imports.cursor c.imports.found.items c.in_err-entry.field-0.0 c.in_ok-count.ensures c.imports-test.true c.imports.invariant c.in_err-entry.ensures)

pub imports-preserved : goal.imports-preserved
imports-preserved c =
    listed_step (import_at c.args.ct) held_after c.in_ok-count.count none_held c.number.new.cursor c.imports.counter c.imports.held c.held_with-held.result c.imports.cursor c.import.new.cursor c.imports.found.items c.push.new.self.items c.in_ok-entry.entry c.imports-test.true c.imports.invariant c.in_ok-entry.ensures
    (c.held_with-held.ensures ∙ ap (λ (i : Import Label). held_with i.kind c.imports.held) c.entry.view_is) c.in_ok-push.ensures.items
