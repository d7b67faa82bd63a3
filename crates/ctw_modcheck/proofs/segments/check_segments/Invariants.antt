use Rattle.ctw_module.specs.Trees.{tree}
use Rattle.ctw_modcheck.specs.Faults.{segment_fault}
use Rattle.ctw_modcheck.proofs.Loops.{Reached}
use Rattle.ctw_modcheck.proofs.segments.check_segments.Given as goal

abbrev pub invariant-segments : goal.invariant-segments
invariant-segments l = Reached (segment_fault (tree l.m)) (tree l.m).segments 0 l.i
