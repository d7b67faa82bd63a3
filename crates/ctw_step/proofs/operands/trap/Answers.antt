use Rattle.ctw_step.specs.Shown.{shown}
use Rattle.ctw_step.proofs.OperandLaws.{unreached}
use Rattle.ctw_step.proofs.operands.trap.Goals as goal

pub returns : goal.returns
returns c = λ bytes s codes fns fn h code vs k m. unreached codes bytes (shown c.args.act.now) c.args.next fns fn s h code vs m (shown c.args.act.now)
