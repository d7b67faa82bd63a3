use Rattle.ctw_module.specs.Trees.{view_module}
use Rattle.ctw_modcheck.proofs.BodyChecks.{defined_fault}
use Rattle.ctw_modcheck.proofs.Loops.{Reached}
use Rattle.ctw_modcheck.proofs.bodies.check_bodies.Given as goal

abbrev pub invariant-functions : goal.invariant-functions
invariant-functions l = Reached (defined_fault (view_module l.m)) (view_module l.m).functions 0 l.i
