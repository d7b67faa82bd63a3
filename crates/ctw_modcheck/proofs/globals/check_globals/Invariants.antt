use Rattle.ctw_module.specs.Trees.{tree}
use Rattle.ctw_modcheck.specs.Faults.{global_fault}
use Rattle.ctw_modcheck.proofs.Loops.{Reached}
use Rattle.ctw_modcheck.proofs.globals.check_globals.Given as goal

abbrev pub invariant-globals : goal.invariant-globals
invariant-globals l = Reached (global_fault (tree l.m)) (tree l.m).globals 0 l.i
