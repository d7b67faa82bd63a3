use Rattle.ctw_module.specs.Trees.{tree}
use Rattle.ctw_modcheck.specs.Faults.{element_fault}
use Rattle.ctw_modcheck.proofs.Loops.{Reached}
use Rattle.ctw_modcheck.proofs.segments.check_elements.Given as goal

abbrev pub invariant-elements : goal.invariant-elements
invariant-elements l = Reached (element_fault (tree l.m)) (tree l.m).elements 0 l.i
