-- When a count of faults rose, for crates that pass faults on.
use Rattle.std.proofs.Common.{◌≤◌, ℕ, arith}
use Rattle.ctw_io.specs.Faults.{Rose, last_count}

-- a count that stays 0 hasn't risen: so a shelf or a sink that counts none doesn't fail
pub never_rose : ¬ (Rose 0 0)
unfolding last_count
never_rose rose = omega (arith, rose)

-- a count that rose from a later number rose from an earlier one
pub rose_after : (first before after : ℕ) → first ≤ before → Rose before after → Rose first after
rose_after first before after h rose = omega arith

-- a count that rose has still risen later
pub rose_before : (before after last : ℕ) → Rose before after → after ≤ last → Rose before last
rose_before before after last rose h = omega arith
