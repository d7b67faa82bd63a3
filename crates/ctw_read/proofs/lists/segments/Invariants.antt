use Rattle.std.proofs.Common.{◌-◌}
use Rattle.ctw_leb.proofs.Loops.{Left}
use Rattle.ctw_form.specs.Read.{segment_at}
use Rattle.ctw_read.proofs.lists.segments.Given as goal

abbrev pub invariant-segments : goal.invariant-segments
invariant-segments l = Left (segment_at l.ct) l.count l.initial.cursor (l.count - l.counter) l.cursor
