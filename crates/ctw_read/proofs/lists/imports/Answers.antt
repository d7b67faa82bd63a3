use Rattle.std.proofs.Common.{◌-◌, ◌+◌, ap, sym, subst, ◌∙◌}
use Rattle.ctw_ops.specs.declared.types.Label.{Label}
use Rattle.ctw_ops.specs.Tree.{Import}
use Rattle.ctw_leb.proofs.Loops.{LeftFrom, left_from_step}
use Rattle.ctw_form.specs.declared.table.Held.{Held}
use Rattle.ctw_form.specs.Sections.{none_held, held_with, held_after}
use Rattle.ctw_form.specs.Read.{import_at}
use Rattle.ctw_read.proofs.lists.imports.Goals as goal

pub imports-preserved : goal.imports-preserved
imports-preserved c =
    let more = left_from_step (import_at c.args.ct) held_after c.in_ok-count.count none_held c.number.new.cursor c.imports.counter c.imports.held c.imports.cursor c.import.new.cursor c.in_ok-entry.entry c.imports-test.true c.imports.invariant c.in_ok-entry.ensures in
    let same = c.held_with-held.ensures ∙ ap (λ (i : Import Label). held_with i.kind c.imports.held) c.entry.view_is in
    subst (λ (h : Held). LeftFrom (import_at c.args.ct) held_after c.in_ok-count.count none_held c.number.new.cursor (c.in_ok-count.count - (c.imports.counter + 1)) h c.import.new.cursor) (sym same) more
