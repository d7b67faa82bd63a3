use Rattle.std.proofs.Common.{length, ◌-◌, ◌≡◌, ◌≤◌, take, None}
use Rattle.std.specs.FinMap.{find}
use Rattle.std.specs.Ordering.{nat_cmp}
use Rattle.std.specs.Cmp.Lexicographic.{slice_cmp}
use Rattle.ctw_io.specs.Held.{file_entries}
use Rattle.ctw_io.proofs.kept.place_of.Given as goal

abbrev pub invariant-loop-place : goal.invariant-loop-place
invariant-loop-place l = record {
  within : l.place ≤ length l.files;
  before : find (slice_cmp nat_cmp) l.name (file_entries (take l.place l.files)) ≡ None;
}

abbrev pub decreases-loop-place : goal.decreases-loop-place
decreases-loop-place l = length l.files - l.place
