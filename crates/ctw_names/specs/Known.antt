-- Numbers of indexes, where they have one.
use Rattle.std.specs.Prelude.{ℕ, nat_lt, cond, List, Option, Some, None, position}
use Rattle.ctw_text.specs.Written.{Name}
use Rattle.ctw_text.specs.declared.pieces.Index.{Index}
use Rattle.ctw_text.specs.declared.pieces.Index.TheVariants.{Numbered, Named}
use Rattle.ctw_text.specs.Names.{is_named}

-- the number of an index among these names, if it has one
abbrev pub number_of : List (Option Name) → Index → Option ℕ
number_of names (Numbered n) = Some n
number_of names (Named w) = position (is_named w) names

-- a number that is found, where it is below a count
abbrev pub below : (count : ℕ) → Option ℕ → Option ℕ
below count None = None
below count (Some n) = cond (nat_lt n count) (Some n) None
