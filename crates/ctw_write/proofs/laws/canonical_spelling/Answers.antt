use Rattle.ctw_write.proofs.CanonicalText.{canonical_spelled, canonical_shortest, canonical_fixed}
use Rattle.ctw_write.proofs.laws.canonical_spelling.Goals as goal

pub returns-clause-spelled : goal.returns-clause-spelled
returns-clause-spelled c bytes m s = canonical_spelled bytes m s

pub returns-clause-shortest : goal.returns-clause-shortest
returns-clause-shortest c bytes m s = canonical_shortest bytes m s

pub returns-clause-fixed : goal.returns-clause-fixed
returns-clause-fixed c bytes m n s t = canonical_fixed bytes m n s t
