use Rattle.ctw_module.specs.Trees.{tree}
use Rattle.ctw_modcheck.specs.Faults.{is_variant}
use Rattle.ctw_modcheck.proofs.Loops.{Tested}
use Rattle.ctw_modcheck.proofs.types.are_variants_from.Given as goal

abbrev pub invariant-entries : goal.invariant-entries
invariant-entries l = Tested is_variant (tree l.m).types l.first l.i
