use Rattle.std.proofs.Common.{◌≡◌, ◌+◌, ◌-◌, ◌<◌, ◌≤◌, ◌^◌, take, drop}
use Rattle.ctw_semantics.specs.Stores.{number_of_bytes}
use Rattle.ctw_store.specs.Pages.{all_bytes}
use Rattle.ctw_store.proofs.page.read_over.Given as goal

abbrev pub invariant-bytes : goal.invariant-bytes
invariant-bytes l = record {
  below : l.left ≤ l.count;
  number : l.number ≡ number_of_bytes (take (l.count - l.left) (drop (l.at + l.left) (all_bytes l.pages)));
  small : l.number < 256 ^ (l.count - l.left);
}

abbrev pub decreases-bytes : goal.decreases-bytes
decreases-bytes l = l.left
