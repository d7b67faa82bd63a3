use Rattle.ctw_unique.proofs.laws.begun_calls_hold_by_bodies.Goals as goal
use Rattle.std.proofs.Common.{refl}
use Rattle.ctw_ops.proofs.Lists.{all_get}
use Rattle.ctw_semantics.specs.Sound.{FunctionTyped}

pub returns : goal.returns
returns c fns shape n fn args set found =
    (fn, record { found = found; typed = all_get (FunctionTyped fns shape) fns n fn set.bodies found; labels = (fn.body, 0, (refl, refl), (refl, refl, refl, refl)) }, tt)
