use Rattle.ctw_infer.proofs.Keeping.{kept_clear, clear_kept}
use Rattle.ctw_infer.proofs.laws.kept_trust_is_not_misused.Goals as goal

pub returns : goal.returns
returns c = λ m p. (kept_clear m p, λ h. clear_kept m p h.0 h.1)
