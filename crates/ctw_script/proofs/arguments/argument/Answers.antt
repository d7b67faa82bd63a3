use Rattle.ctw_script.proofs.ArgumentLaws.{argument_tells, argument_only}
use Rattle.ctw_script.proofs.arguments.argument.Goals as goal

pub returns-clause-spelled : goal.returns-clause-spelled
returns-clause-spelled c = rw c.argument_of.ensures (argument_tells c.args.word.now)

pub returns-clause-only : goal.returns-clause-only
returns-clause-only c = λ a b h k. argument_only a b h k
