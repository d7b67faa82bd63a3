use Rattle.ctw_step.proofs.Homes.{has_global}
use Rattle.ctw_step.proofs.sets.global_in.Goals as goal

pub global_of-requires : goal.global_of-requires
global_of-requires c = has_global c.args.set.now c.args.part c.args.index c.requires.0 c.requires.1
