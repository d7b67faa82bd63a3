use Rattle.ctw_pieces.proofs.Exponents.{IsAt}
use Rattle.ctw_pieces.proofs.numbers.exponent.Given as goal

abbrev pub invariant-loop-k : goal.invariant-loop-k
invariant-loop-k l = IsAt l.k l.n l.power

abbrev pub decreases-loop-k : goal.decreases-loop-k
decreases-loop-k l = l.k
