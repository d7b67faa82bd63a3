use Rattle.std.proofs.Common.{length}
use Rattle.ctw_read.proofs.CodeLoops.{Going}
use Rattle.ctw_read.proofs.code.body.Given as goal

abbrev pub invariant-body : goal.invariant-body
invariant-body l = Going l.ct l.initial.cursor l.nesting l.cursor

abbrev pub decreases-body : goal.decreases-body
decreases-body l = length l.cursor.rest
