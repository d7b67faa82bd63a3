use Rattle.ctw_parse.proofs.LocalEnds.{EndsTo}
use Rattle.ctw_parse.proofs.excess.locals_excess.Given as goal

-- none of the first ones ends a run that is too long
abbrev pub invariant-loop-i : goal.invariant-loop-i
invariant-loop-i l = EndsTo l.before l.locals l.i
