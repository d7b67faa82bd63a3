-- An option in an option as one.
use Rattle.std.specs.Prelude.{Option, Some, None}

abbrev pub flat : {A : Type 0} → Option (Option A) → Option A
flat None = None
flat (Some o) = o
