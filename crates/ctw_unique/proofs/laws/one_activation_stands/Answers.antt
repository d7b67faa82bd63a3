use Rattle.ctw_unique.proofs.Alone.{alone, alone_there}
use Rattle.ctw_unique.proofs.laws.one_activation_stands.Goals as goal

pub returns-clause-closed_alike : goal.returns-clause-closed_alike
returns-clause-closed_alike c fns shape codes call last other closers a b s t x y h i = alone fns shape codes call last other closers a b s t x y h i

pub returns-clause-there : goal.returns-clause-there
returns-clause-there c fns shape codes call last other a b s t x y = alone_there fns shape codes call last other a b s t x y
