use Rattle.ctw_flat.specs.Instructions.{targets_in}
use Rattle.ctw_flat.proofs.TargetBytes.{count_of_targets}
use Rattle.ctw_flat.proofs.targets.Targets.new.Goals as goal

pub returns-clause-count : goal.returns-clause-count
returns-clause-count c = count_of_targets c.args.count c.args.targets.now (targets_in c.args.count c.args.targets.now) c.requires
