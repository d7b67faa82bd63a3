-- The labels of the first sites are public.
use Rattle.std.proofs.Common.{◌≡◌, ◌+◌, ◌<◌, ℕ, true}
use Rattle.ctw_labels.specs.Fits.{label_at}
use Rattle.ctw_labels.specs.Placed.{is_public}
use Rattle.ctw_place.proofs.uses.are_open.Given as goal

abbrev pub invariant-sites : goal.invariant-sites
invariant-sites l = (i : ℕ) → i < l.i → is_public (label_at l.labels (l.first + i)) ≡ true
