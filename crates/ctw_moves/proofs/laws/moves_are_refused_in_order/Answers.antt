use Rattle.ctw_moves.proofs.Refusing.{refused_for}
use Rattle.ctw_moves.proofs.laws.moves_are_refused_in_order.Goals as goal

pub returns : goal.returns
returns c = refused_for
