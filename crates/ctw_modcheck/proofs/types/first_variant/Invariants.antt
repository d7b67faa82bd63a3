use Rattle.ctw_module.specs.Trees.{tree}
use Rattle.ctw_modcheck.proofs.Variants.{ArePlain}
use Rattle.ctw_modcheck.proofs.types.first_variant.Given as goal

abbrev pub invariant-entries : goal.invariant-entries
invariant-entries l = ArePlain (tree l.m).types l.i
