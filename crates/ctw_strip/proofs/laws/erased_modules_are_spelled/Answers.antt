use Rattle.std.proofs.Common.{arith}
use Rattle.ctw_write.proofs.CanonicalText.{canonical_shortest}
use Rattle.ctw_strip.proofs.Shorter.{canon_shorter}
use Rattle.ctw_strip.proofs.Limited.{erased_spelled, erased_only}
use Rattle.ctw_strip.proofs.laws.erased_modules_are_spelled.Goals as goal

pub returns-clause-shorter : goal.returns-clause-shorter
returns-clause-shorter c bytes m s a = omega (arith, canon_shorter m a, canonical_shortest bytes m s)

pub returns-clause-spelled : goal.returns-clause-spelled
returns-clause-spelled c bytes m s a f small = erased_spelled bytes m s a f small

pub returns-clause-only : goal.returns-clause-only
returns-clause-only c bytes m n s a f small t = erased_only bytes m n s a f small t
