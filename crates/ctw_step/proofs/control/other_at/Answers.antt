use Rattle.std.proofs.Common.{subst}
use Rattle.ctw_step.specs.Told.{OtherArm}
use Rattle.ctw_step.proofs.control.other_at.Goals as goal

pub returns-in-Some : goal.returns-in-Some
returns-in-Some c = λ at o. c.behind.ensures at (subst (λ p. OtherArm c.args.body.now c.args.end p at) c.in-Some.is o)
