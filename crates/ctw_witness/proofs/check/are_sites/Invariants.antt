use Rattle.std.proofs.Common.{ℕ, ◌<◌, get_or, length}
use Rattle.ctw_witness.proofs.check.are_sites.Given as goal

abbrev pub invariant-sites : goal.invariant-sites
invariant-sites l = (k d : ℕ) → k < l.i → get_or l.w.sites k d < length l.graph
