use Rattle.ctw_step.specs.Shown.{shown}
use Rattle.ctw_step.proofs.OperandLaws.{constant_put}
use Rattle.ctw_step.proofs.operands.constant.Goals as goal

pub returns-clause-does : goal.returns-clause-does
returns-clause-does c = λ w l bytes s codes fns fn h code vs k m. constant_put codes bytes (shown c.args.act.now) c.args.next fns fn s h code vs w l c.args.bits m (shown c.push.new.act) c.in_ok-push.ensures
