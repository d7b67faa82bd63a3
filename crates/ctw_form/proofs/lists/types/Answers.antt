use Rattle.ctw_form.specs.Read.{type_entry_at}
use Rattle.ctw_form.proofs.Listing.{items_step}
use Rattle.ctw_form.proofs.lists.types.Goals as goal

pub entries-preserved : goal.entries-preserved
entries-preserved c =
    items_step (type_entry_at c.args.ct) c.in_ok-count.count c.number.new.cursor c.entries.counter c.entries.cursor c.type_entry.new.cursor c.entries.found.items c.push.new.self.items _ c.entries-test.true c.entries.invariant c.in_ok-type_entry.ensures c.in_ok-push.ensures.items
