use Rattle.std.proofs.Common.{ℕ, ◌≡◌, ◌<◌, Some, slice_get}
use Rattle.ctw_ops.specs.declared.types.Label.{Label}
use Rattle.ctw_labels.specs.declared.name.SiteName.{SiteName}
use Rattle.ctw_least.specs.Marked.{site_named}
use Rattle.ctw_witness.proofs.check.is_marked.Given as goal

-- no mark so far has the label and is the site's
abbrev pub invariant-marks : goal.invariant-marks
invariant-marks l = (j : ℕ) (k : SiteName × Label) → j < l.i → slice_get l.marks.labels j ≡ Some k → k.1 ≡ l.label → site_named l.s k.0 ≡ Some l.site → ⊥
