use Rattle.std.proofs.Common.{length}
use Rattle.ctw_flat.proofs.Marks.{Walked}
use Rattle.ctw_flat.proofs.nesting.mark.Given as goal

-- no fault so far, and what is open and marked
abbrev pub invariant-body : goal.invariant-body
invariant-body l = Walked l.code l.nesting l.cursor l.marks.items

abbrev pub decreases-body : goal.decreases-body
decreases-body l = length l.cursor.rest
