use Rattle.ctw_semantics.specs.Steps.{turn}
use Rattle.ctw_semantics.specs.Seen.{seen_turned}
use Rattle.ctw_semantics.proofs.AlikeSteps.{same_ends, red_same, step_same, turn_same, turns_same}
use Rattle.ctw_semantics.proofs.Begun.{begun_alike}
use Rattle.ctw_semantics.proofs.laws.agreeing_runs_look_the_same.Goals as goal

pub returns-clause-reductions : goal.returns-clause-reductions
returns-clause-reductions c = red_same

pub returns-clause-steps : goal.returns-clause-steps
returns-clause-steps c = step_same

pub returns-clause-turns : goal.returns-clause-turns
returns-clause-turns c n fns = turn_same fns n

pub returns-clause-equal_releases : goal.returns-clause-equal_releases
returns-clause-equal_releases c n fns s t a b e r =
    same_ends (seen_turned (turn n fns s a)) (seen_turned (turn n fns t b)) (turn n fns s a).releases (turn n fns t b).releases (turn_same fns n s t a b e) r

pub returns-clause-one_after_another : goal.returns-clause-one_after_another
returns-clause-one_after_another c n m fns s t a b = turns_same fns n m s t a b

pub returns-clause-begun_calls : goal.returns-clause-begun_calls
returns-clause-begun_calls c = begun_alike
