use Rattle.ctw_ops.specs.Tree.{function_entries}
use Rattle.ctw_module.specs.Trees.{tree}
use Rattle.ctw_modcheck.specs.Faults.{names}
use Rattle.ctw_modcheck.proofs.Loops.{Tested}
use Rattle.ctw_modcheck.proofs.segments.has_functions.Given as goal

abbrev pub invariant-functions : goal.invariant-functions
invariant-functions l = Tested (names (function_entries (tree l.m))) l.element.functions 0 l.k
