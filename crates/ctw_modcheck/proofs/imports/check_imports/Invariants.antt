use Rattle.ctw_module.specs.Trees.{tree}
use Rattle.ctw_modcheck.specs.Faults.{import_fault}
use Rattle.ctw_modcheck.proofs.Loops.{Reached}
use Rattle.ctw_modcheck.proofs.imports.check_imports.Given as goal

abbrev pub invariant-imports : goal.invariant-imports
invariant-imports l = Reached (import_fault (tree l.m)) (tree l.m).imports 0 l.i
