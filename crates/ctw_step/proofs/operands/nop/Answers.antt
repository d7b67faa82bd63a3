use Rattle.ctw_step.specs.Shown.{shown}
use Rattle.ctw_step.proofs.OperandLaws.{passed}
use Rattle.ctw_step.proofs.operands.nop.Goals as goal

pub returns : goal.returns
returns c = λ bytes s codes fns fn h code vs k m. passed codes bytes (shown c.args.act.now) c.args.next fns fn s h code vs m (shown c.go_to.new.act) c.go_to.ensures
