use Rattle.ctw_semantics.proofs.Begun.{begun_sound}
use Rattle.ctw_semantics.proofs.laws.begun_calls_are_sound.Goals as goal

pub returns : goal.returns
returns c fns shape n fn args set = begun_sound fns shape set n fn args
