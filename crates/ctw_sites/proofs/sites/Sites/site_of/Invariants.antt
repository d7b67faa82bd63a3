use Rattle.std.specs.Prelude.{◌≡◌, ◌≤◌, ◌<◌, ◌-◌, ℕ, Some, length}
use Rattle.ctw_labels.specs.Order.{name_at}
use Rattle.ctw_sites.proofs.sites.Sites.site_of.Given as goal

-- the site of the name stands between
abbrev pub invariant-between : goal.invariant-between
invariant-between l = record {
  order : l.low ≤ l.high;
  within : l.high ≤ length l.self;
  between : (k : ℕ) → name_at l.self k ≡ Some l.fn.name → (l.low ≤ k) × (k < l.high);
}

abbrev pub decreases-between : goal.decreases-between
decreases-between l = l.high - l.low
