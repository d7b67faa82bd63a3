use Rattle.std.proofs.Common.{◌≤◌, ◌+◌, ◌-◌}
use Rattle.std.specs.Vec.{vec_len, vec_capacity}
use Rattle.ctw_store.specs.Made.{KeepsMade}
use Rattle.ctw_step.specs.Turning.{CameFromAll}
use Rattle.ctw_step.specs.Stepping.{CanStep}
use Rattle.ctw_step.proofs.turning.turn_steps.Given as goal

-- from each call that stood at the start, the steps that were taken have led here; there is room for the events to come
abbrev pub invariant-steps : goal.invariant-steps
invariant-steps l = CameFromAll l.set l.steps l.fn.store.storage l.fn.act l.fn.events.items l.store.storage l.act l.events.items
    × CanStep l.set l.store.storage l.act × (l.steps ≤ l.n) × (vec_len l.events + (l.n - l.steps) ≤ vec_capacity l.events) × KeepsMade l.fn.store.made l.store.made

abbrev pub decreases-steps : goal.decreases-steps
decreases-steps l = l.n - l.steps
