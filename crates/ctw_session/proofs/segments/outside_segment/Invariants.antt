use Rattle.std.proofs.Common.{ℕ}
use Rattle.ctw_link.specs.Numbers.{LinkedModule}
use Rattle.ctw_launch.specs.Launched.{LaunchFault, segment_fits}
use Rattle.ctw_session.specs.Segments.{IsLinkedPart}
use Rattle.ctw_session.proofs.Checking.{FitBefore}
use Rattle.ctw_session.proofs.segments.outside_segment.Given as goal

abbrev pub invariant-segments : goal.invariant-segments
invariant-segments l = (p : LinkedModule) (fault : ℕ → LaunchFault) → IsLinkedPart l.set l.part p → FitBefore (segment_fits l.store.storage p) fault p.tree.segments l.index
