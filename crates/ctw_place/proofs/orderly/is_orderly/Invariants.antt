use Rattle.std.specs.Prelude.{◌≡◌, ◌<◌, ℕ, slice_get, Some}
use Rattle.ctw_labels.specs.Fits.{label_at}
use Rattle.ctw_labels.specs.Names.{Site}
use Rattle.ctw_place.specs.Orderly.{AllowsSite}
use Rattle.ctw_place.proofs.orderly.is_orderly.Given as goal

-- the sites before this one are allowed
abbrev pub invariant-loop-site : goal.invariant-loop-site
invariant-loop-site l = (k : ℕ) → k < l.site → (x : Site) → slice_get l.s k ≡ Some x → AllowsSite (label_at l.l) l.p k x
