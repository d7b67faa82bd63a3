use Rattle.std.proofs.Common.{length}
use Rattle.ctw_read.proofs.FileLoops.{Going}
use Rattle.ctw_read.proofs.sections.sections.Given as goal

abbrev pub invariant-sections : goal.invariant-sections
invariant-sections l = Going l.ct l.initial.cursor l.seen l.cursor

abbrev pub decreases-sections : goal.decreases-sections
decreases-sections l = length l.cursor.rest
