use Rattle.ctw_ops.specs.declared.types.ExternTag.TheVariants.{Memory}
use Rattle.ctw_step.proofs.Homes.{part_there}
use Rattle.ctw_step.proofs.sets.memory_in.Goals as goal

pub memory_of-requires : goal.memory_of-requires
memory_of-requires c = part_there c.args.set.now Memory c.args.part 0 c.requires.0 c.requires.1
