-- What the marks of a workload are read as.
use Rattle.std.specs.Prelude.{ℕ, [], ◌∷◌}
use Rattle.ctw_ops.specs.declared.types.Label.TheVariants.{Secret}
use Rattle.ctw_labels.specs.declared.name.SiteName.TheVariants.{Param}
use Rattle.ctw_labels.specs.Points.{no_points}
use Rattle.ctw_marks.specs.Readings.{MarkList}

-- the parameter of `main`, which stands behind the other functions, is secret; nothing is trusted, and nothing released
abbrev pub workload_marks : ℕ → MarkList
workload_marks size = record { labels = (Param size 0, Secret) ∷ []; points = no_points }
