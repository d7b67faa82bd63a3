use Rattle.std.proofs.Common.{◌≡◌, drop}
use Rattle.ctw_ops.specs.Limits.{most_steps}
use Rattle.ctw_semantics.specs.Sound.{Shape}
use Rattle.ctw_link.specs.Sets.{set_of}
use Rattle.ctw_link.specs.Numbers.{linked}
use Rattle.ctw_link.specs.SetInstances.{set_instances}
use Rattle.ctw_launch.specs.Launched.{started}
use Rattle.ctw_session.specs.Launches.{IsStoreIn}
use Rattle.ctw_session.proofs.starts.start_parts.Given as goal

abbrev pub invariant-parts : goal.invariant-parts
invariant-parts l =
    (shape : Shape) → IsStoreIn l.set shape l.fn.store.storage → IsStoreIn l.set shape l.store.storage
    × (started most_steps (set_instances (set_of l.set)) (linked (set_of l.set)) l.fn.store.storage ≡ started most_steps (set_instances (set_of l.set)) (drop l.part (linked (set_of l.set))) l.store.storage)
