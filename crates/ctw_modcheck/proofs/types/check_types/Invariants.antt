use Rattle.ctw_module.specs.Trees.{tree}
use Rattle.std.proofs.Common.{[]}
use Rattle.ctw_modcheck.specs.Faults.{variant_fault}
use Rattle.ctw_modcheck.proofs.Loops.{Reached}
use Rattle.ctw_modcheck.proofs.types.check_types.Given as goal

abbrev pub invariant-variants : goal.invariant-variants
invariant-variants l = Reached (variant_fault (tree l.m).types []) (tree l.m).types l.first l.i
