use Rattle.std.proofs.Common.{◌≡◌, fold, take}
use Rattle.ctw_link.specs.Sets.{set_of}
use Rattle.ctw_link.specs.Numbers.{linked}
use Rattle.ctw_launch.specs.Launched.{with_part}
use Rattle.ctw_session.specs.Segments.{IsLoading}
use Rattle.ctw_session.proofs.segments.write_segments.Given as goal

abbrev pub invariant-parts : goal.invariant-parts
invariant-parts l = record {
  loading : IsLoading l.set l.store.storage;
  written : l.store.storage ≡ fold with_part l.fn.store.storage (take l.part (linked (set_of l.set)));
}
