use Rattle.std.specs.Prelude.{◌≡◌, ◌||◌, ℕ, [], drop}
use Rattle.ctw_module.specs.Trees.{view_module}
use Rattle.ctw_labels.specs.Points.{has_number}
use Rattle.ctw_marks.specs.Taken.{trusts_in}
use Rattle.ctw_marks.proofs.read.trusted_by.Given as goal

-- the functions of the lines so far are taken
abbrev pub invariant-entries : goal.invariant-entries
invariant-entries l = record {
  trusted : (g : ℕ) → (trusts_in (view_module l.m) (drop l.entry-index l.entries) g || has_number g l.points.trusted) ≡ trusts_in (view_module l.m) l.entries g;
  releases : l.points.releases ≡ [];
}
