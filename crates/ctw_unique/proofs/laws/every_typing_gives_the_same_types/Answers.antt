use Rattle.ctw_unique.proofs.Sequences.{labels_also}
use Rattle.ctw_unique.proofs.Alone.{stacks_same}
use Rattle.ctw_unique.proofs.laws.every_typing_gives_the_same_types.Goals as goal

pub returns-clause-each : goal.returns-clause-each
returns-clause-each c = labels_also

pub returns-clause-only : goal.returns-clause-only
returns-clause-only c = stacks_same
