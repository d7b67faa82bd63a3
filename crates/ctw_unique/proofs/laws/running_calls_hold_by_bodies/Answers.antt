use Rattle.ctw_unique.proofs.Keeping.{red_good}
use Rattle.ctw_unique.proofs.KeepingSteps.{step_good, turn_good}
use Rattle.ctw_unique.proofs.laws.running_calls_hold_by_bodies.Goals as goal

pub returns-clause-reductions : goal.returns-clause-reductions
returns-clause-reductions c fns shape last closers s a set ss h r = red_good fns shape set last s a closers ss h r

pub returns-clause-steps : goal.returns-clause-steps
returns-clause-steps c fns shape last closers s a set ss h r = step_good fns shape last set s a closers ss h r

pub returns-clause-turns : goal.returns-clause-turns
returns-clause-turns c n fns shape last closers s a set ss h r = turn_good fns shape last set n s a closers ss h r
