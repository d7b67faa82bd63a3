use Rattle.std.proofs.Common.{ℕ}
use Rattle.ctw_link.specs.Numbers.{LinkedModule}
use Rattle.ctw_launch.specs.Launched.{LaunchFault, element_fits}
use Rattle.ctw_session.specs.Segments.{IsLinkedPart}
use Rattle.ctw_session.proofs.Checking.{FitBefore}
use Rattle.ctw_session.proofs.segments.outside_element.Given as goal

abbrev pub invariant-elements : goal.invariant-elements
invariant-elements l = (p : LinkedModule) (fault : ℕ → LaunchFault) → IsLinkedPart l.set l.part p → FitBefore (element_fits l.store.storage p) fault p.tree.elements l.index
