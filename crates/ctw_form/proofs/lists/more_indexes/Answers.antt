use Rattle.ctw_form.proofs.Listing.{indexes_step}
use Rattle.ctw_form.proofs.lists.more_indexes.Goals as goal

pub indexes-preserved : goal.indexes-preserved
indexes-preserved c =
    indexes_step c.in_ok-count.count c.number.new.cursor c.indexes.counter c.indexes.cursor c.number-in-indexes.new.cursor c.args.all.now.items c.indexes.all.items c.push.new.self.items _ c.indexes-test.true c.indexes.invariant c.in_ok-number.ensures c.in_ok-push.ensures.items
