use Rattle.ctw_ops.specs.declared.types.ExternTag.TheVariants.{Table}
use Rattle.ctw_step.proofs.Homes.{part_there}
use Rattle.ctw_step.proofs.sets.table_in.Goals as goal

pub table_of-requires : goal.table_of-requires
table_of-requires c = part_there c.args.set.now Table c.args.part 0 c.requires.0 c.requires.1
