use Rattle.std.proofs.Common.{length}
use Rattle.ctw_module.proofs.Filling.{Going}
use Rattle.ctw_module.proofs.gather.gather.Given as goal

abbrev pub invariant-sections : goal.invariant-sections
invariant-sections l = Going l.ct l.initial.cursor l.cursor l.found

abbrev pub decreases-sections : goal.decreases-sections
decreases-sections l = length l.cursor.rest
