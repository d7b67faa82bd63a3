-- The open blocks, innermost first, and the calls on them.
use Rattle.std.specs.Prelude.{ℕ, Bool, true, false, List, [], ◌∷◌, map, Option, Some, None, option_map, slice_get, length, sum_by}
use Rattle.ctw_ops.specs.declared.types.Width.{Width}
use Rattle.ctw_ops.specs.Types.{ValueType, value_type}
use Rattle.ctw_stack.specs.declared.slot.Slot.{Slot}
use Rattle.ctw_stack.specs.Operands.{Operands, Popped, fresh, killed, push, pop}

-- an open block: its operands, whether it is a loop, and the type of its result
pub record Open (S : Type 0) : Type 0 where
  pub operands : Operands S
  pub loops : Bool
  pub yields : Option (ValueType S)

-- without slots
abbrev pub opened : {S : Type 0} → Bool → Option (ValueType S) → Open S
opened loops yields = record { operands = fresh; loops = loops; yields = yields }

-- the block with other operands
abbrev pub with_operands : {S : Type 0} → Open S → Operands S → Open S
with_operands b operands = record { operands = operands; loops = b.loops; yields = b.yields }

-- a value type as a pair
abbrev pub type_of : {S : Type 0} → Width × S → ValueType S
type_of pair = value_type pair.0 pair.1

-- how many slots all blocks hold
abbrev pub slot_count : {S : Type 0} → List (Open S) → ℕ
slot_count blocks = sum_by (λ b. length b.operands.slots) blocks

-- the calls act on the innermost block
abbrev pub after_push : {S : Type 0} → Slot S → List (Open S) → List (Open S)
after_push slot [] = []
after_push slot (b ∷ outer) = with_operands b (push slot b.operands) ∷ outer

-- a slot and the blocks that it is taken from
pub record Taken (S : Type 0) : Type 0 where
  pub slot : Slot S
  pub blocks : List (Open S)

-- the same by what a pop of the innermost block's operands gives
abbrev pub taken_from : {S : Type 0} → Open S → List (Open S) → Option (Popped S) → Option (Taken S)
taken_from b outer popped = option_map (λ p. record { slot = p.slot; blocks = with_operands b p.rest ∷ outer }) popped

abbrev pub after_pop : {S : Type 0} → List (Open S) → Option (Taken S)
after_pop [] = None
after_pop (b ∷ outer) = taken_from b outer (pop b.operands)

abbrev pub after_enter : {S : Type 0} → Bool → Option (ValueType S) → List (Open S) → List (Open S)
after_enter loops yields blocks = opened loops yields ∷ blocks

abbrev pub after_kill : {S : Type 0} → List (Open S) → List (Open S)
after_kill [] = []
after_kill (b ∷ outer) = with_operands b killed ∷ outer

-- what a branch to a block carries: nothing to a loop, whose begin it goes to
abbrev pub label_from : {S : Type 0} → Bool → Option (ValueType S) → Option (ValueType S)
label_from true yields = None
label_from false yields = yields

abbrev pub label_of : {S : Type 0} → Open S → Option (ValueType S)
label_of b = label_from b.loops b.yields

-- the label so many blocks outwards
abbrev pub target_of : {S : Type 0} → ℕ → List (Open S) → Option (Option (ValueType S))
target_of depth blocks = slice_get (map label_of blocks) depth

-- whether the innermost block is a loop, and its result
abbrev pub innermost_of : {S : Type 0} → List (Open S) → Option (Bool × Option (ValueType S))
innermost_of [] = None
innermost_of (b ∷ outer) = Some (b.loops, b.yields)

abbrev pub after_leave : {S : Type 0} → List (Open S) → List (Open S)
after_leave [] = []
after_leave (b ∷ outer) = outer

-- how many slots the innermost block holds
abbrev pub count_of_innermost : {S : Type 0} → List (Open S) → Option ℕ
count_of_innermost [] = None
count_of_innermost (b ∷ outer) = Some (length b.operands.slots)
