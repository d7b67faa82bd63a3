use Rattle.std.proofs.Common.{reverse}
use Rattle.ctw_pieces.proofs.Claims.{Claim}
use Rattle.ctw_pieces.proofs.pieces.Given as goal

abbrev pub invariant-loop-at : goal.invariant-loop-at
invariant-loop-at l =
    Claim l.tokens l.ct l.at l.machine.held (reverse l.machine.stack.items) l.machine.out.items
