use Rattle.ctw_semantics.proofs.Sound.{red_sound}
use Rattle.ctw_semantics.proofs.SoundSteps.{step_sound, turn_sound}
use Rattle.ctw_semantics.proofs.laws.sound_calls_are_never_stuck.Goals as goal

pub returns-clause-reductions : goal.returns-clause-reductions
returns-clause-reductions c fns shape last s a set ss h = red_sound fns shape last set s a ss h

pub returns-clause-steps : goal.returns-clause-steps
returns-clause-steps c fns shape last s a set ss h = step_sound fns shape last set s a ss h

pub returns-clause-turns : goal.returns-clause-turns
returns-clause-turns c n fns shape last s a set ss h = turn_sound fns shape last set n s a ss h

pub returns-clause-between : goal.returns-clause-between
returns-clause-between c n m fns shape last other s a b set ss h i =
    turn_sound fns shape last set n _ a (turn_sound fns shape other set m s b ss i).storage h
