use Rattle.std.proofs.Common.{arith}
use Rattle.ctw_pieces.proofs.Exponents.{kept, found}
use Rattle.ctw_pieces.proofs.numbers.exponent.Goals as goal

pub returns-then-n-power : goal.returns-then-n-power
returns-then-n-power c = found _ _ _ c.loop-k.invariant (omega arith) c.if-n-power.true

pub loop-k-preserved : goal.loop-k-preserved
loop-k-preserved c = kept _ _ _ c.loop-k.invariant (omega arith) c.if-n-power.false
