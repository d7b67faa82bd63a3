use Rattle.ctw_step.proofs.Homes.{has_function}
use Rattle.ctw_step.proofs.sets.function_in.Goals as goal

pub func-requires : goal.func-requires
func-requires c = has_function c.args.set.now c.args.part c.args.index c.requires.0 c.requires.1
