-- What an opcode that closes a block does to the open blocks,
-- where it is known whether the innermost one is a then arm.
use Rattle.std.specs.Prelude.{Bool, not, ◌||◌, List, [], ◌∷◌, Option, Some, None, is_none}
use Rattle.ctw_ops.specs.declared.types.Label.{Label}
use Rattle.ctw_ops.specs.Types.{ValueType}
use Rattle.ctw_ops.specs.Typing.{optional}
use Rattle.ctw_ops.specs.Segments.{and_then}
use Rattle.ctw_stack.specs.Opens.{Open, opened, with_operands}
use Rattle.ctw_stack.specs.Steps.{when, pushes}
use Rattle.ctw_stack.specs.Pass.{ends_with}
use Rattle.ctw_valid.specs.Faults.{same_label}

-- a block's result goes to the block around it
abbrev pub given_to : Option (ValueType Label) → List (Open Label) → List (Open Label)
given_to t [] = []
given_to t (b ∷ outer) = with_operands b (pushes (optional t) b.operands) ∷ outer

-- `end`
abbrev pub ended : Bool → List (Open Label) → Option (List (Open Label))
ended arm [] = None
ended arm (b ∷ outer) =
    when (not arm || is_none b.yields)
    (and_then (ends_with same_label b.yields b.operands) (λ o. Some (given_to b.yields outer)))

-- `else`
abbrev pub parted : Bool → List (Open Label) → Option (List (Open Label))
parted arm [] = None
parted arm (b ∷ outer) =
    when arm (and_then (ends_with same_label b.yields b.operands) (λ o. Some (opened b.loops b.yields ∷ outer)))
