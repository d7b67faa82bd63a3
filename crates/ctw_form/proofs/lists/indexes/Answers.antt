use Rattle.ctw_form.specs.Read.{number_at}
use Rattle.ctw_form.proofs.Listing.{items_step}
use Rattle.ctw_form.proofs.lists.indexes.Goals as goal

pub indexes-preserved : goal.indexes-preserved
indexes-preserved c =
    items_step number_at c.in_ok-count.count c.number.new.cursor c.indexes.counter c.indexes.cursor c.number-in-indexes.new.cursor c.indexes.found.items c.push.new.self.items _ c.indexes-test.true c.indexes.invariant c.in_ok-number.ensures c.in_ok-push.ensures.items
