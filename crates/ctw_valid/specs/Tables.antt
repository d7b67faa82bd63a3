-- The labels of a branch table.
use Rattle.std.specs.Prelude.{ℕ, Bool, ◌&&◌, List, map, Option, Some, None, if◌then◌else◌}
use Rattle.std.specs.List.{list_all}
use Rattle.ctw_ops.specs.declared.types.Label.{Label}
use Rattle.ctw_ops.specs.Types.{ValueType}
use Rattle.ctw_ops.specs.Typing.{Context}
use Rattle.ctw_stack.specs.Opens.{Open, label_of}
use Rattle.ctw_stack.specs.Steps.{are_labels}
use Rattle.ctw_valid.specs.Faults.{same_label, names}

-- the labels of open blocks
abbrev pub labels_in : List (Open Label) → List (Option (ValueType Label))
labels_in blocks = map label_of blocks

-- None where a target isn't there; else whether all have the type, as those before had
abbrev pub fit : Context Label → Option (ValueType Label) → Bool → List ℕ → Option Bool
fit C t before targets =
    if list_all (names C.labels) targets then Some (before && are_labels same_label C t targets) else None
