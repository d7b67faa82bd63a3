use Rattle.std.proofs.Common.{sym, ◌∙◌}
use Rattle.ctw_pieces.proofs.StepLaws.{stuck_here}
use Rattle.ctw_pieces.proofs.steps.other_than_open.Goals as goal

pub returns-in-None : goal.returns-in-None
returns-in-None c = stuck_here _ _ _ _ c.requires (sym c.in-None.is ∙ c.token_move.ensures) c.why_here.ensures
