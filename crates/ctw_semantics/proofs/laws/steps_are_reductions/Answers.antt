use Rattle.ctw_semantics.proofs.Costs.{step_parts}
use Rattle.ctw_semantics.proofs.laws.steps_are_reductions.Goals as goal

pub returns-clause-free : goal.returns-clause-free
returns-clause-free c fns s a e = (step_parts fns s a).1 e

pub returns-clause-cost : goal.returns-clause-cost
returns-clause-cost c fns s a = (step_parts fns s a).2

pub returns-clause-counted : goal.returns-clause-counted
returns-clause-counted c fns s a e = (step_parts fns s a).0 e
