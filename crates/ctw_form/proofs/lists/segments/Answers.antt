use Rattle.ctw_form.specs.Read.{segment_at}
use Rattle.ctw_form.proofs.Listing.{items_step}
use Rattle.ctw_form.proofs.lists.segments.Goals as goal

pub segments-preserved : goal.segments-preserved
segments-preserved c =
    items_step (segment_at c.args.ct) c.in_ok-count.count c.number.new.cursor c.segments.counter c.segments.cursor c.segment.new.cursor c.segments.found.items c.push.new.self.items _ c.segments-test.true c.segments.invariant c.in_ok-segment.ensures c.in_ok-push.ensures.items
