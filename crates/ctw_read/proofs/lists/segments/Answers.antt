use Rattle.ctw_leb.proofs.Loops.{left_step}
use Rattle.ctw_form.specs.Read.{segment_at}
use Rattle.ctw_read.proofs.lists.segments.Goals as goal

pub segments-preserved : goal.segments-preserved
segments-preserved c = left_step (segment_at c.args.ct) c.in_ok-count.count c.number.new.cursor c.segments.counter c.segments.cursor c.segment.new.cursor _ c.segments-test.true c.segments.invariant c.in_ok-segment.ensures
