-- Sites that follow one another, as tags.
use Rattle.std.specs.Prelude.{ℕ, zero, suc, ◌+◌, List, [], ◌∷◌}
use Rattle.ctw_labels.specs.declared.tag.Tag.{Tag}
use Rattle.ctw_labels.specs.declared.tag.Tag.TheVariants.{At}

-- so many from `n` on
abbrev pub tags_from : ℕ → ℕ → List Tag
tags_from n zero = []
tags_from n (suc count) = At n ∷ tags_from (n + 1) count
