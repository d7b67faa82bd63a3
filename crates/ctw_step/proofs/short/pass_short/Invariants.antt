use Rattle.std.proofs.Common.{◌≡◌, ◌≤◌, ◌+◌, ◌-◌, List}
use Rattle.ctw_ops.specs.Limits.{most_weight}
use Rattle.ctw_script.specs.declared.event.Event.{Event}
use Rattle.ctw_step.specs.Shown.{shown}
use Rattle.ctw_step.specs.Told.{words}
use Rattle.ctw_step.specs.Stepping.{CanStep}
use Rattle.ctw_step.specs.Turning.{CameFromAll}
use Rattle.ctw_step.proofs.short.pass_short.Given as goal

-- the steps that were taken have led here, in the same frames; there is room for a word for each step to come
abbrev pub invariant-steps : goal.invariant-steps
invariant-steps l = ((before : List Event) → CameFromAll l.set l.steps l.store.storage (shown l.fn.act) before l.store.storage (shown l.act) before)
    × CanStep l.set l.store.storage (shown l.act) × (l.steps ≤ l.most) × (words (shown l.act) + (l.most - l.steps) ≤ most_weight) × (l.act.frames.items ≡ l.fn.act.frames.items)

abbrev pub decreases-steps : goal.decreases-steps
decreases-steps l = l.most - l.steps
