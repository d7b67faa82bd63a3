use Rattle.ctw_step.proofs.sets.blocks_of.Goals as goal

pub returns : goal.returns
returns c = c.blocks-2.ensures
