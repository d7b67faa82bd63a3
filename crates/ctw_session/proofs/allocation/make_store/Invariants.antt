use Rattle.std.proofs.Common.{◌≡◌, take}
use Rattle.ctw_link.specs.Sets.{set_of}
use Rattle.ctw_link.specs.Numbers.{linked}
use Rattle.ctw_launch.specs.Launched.{allocated}
use Rattle.ctw_session.proofs.allocation.make_store.Given as goal

abbrev pub invariant-parts : goal.invariant-parts
invariant-parts l = l.store.storage ≡ allocated (linked (take l.part (set_of l.set)))
