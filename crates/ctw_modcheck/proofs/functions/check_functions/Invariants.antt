use Rattle.ctw_module.specs.Trees.{tree}
use Rattle.ctw_modcheck.specs.Faults.{function_fault}
use Rattle.ctw_modcheck.proofs.Loops.{Reached}
use Rattle.ctw_modcheck.proofs.functions.check_functions.Given as goal

abbrev pub invariant-functions : goal.invariant-functions
invariant-functions l = Reached (function_fault (tree l.m)) (tree l.m).functions 0 l.i
