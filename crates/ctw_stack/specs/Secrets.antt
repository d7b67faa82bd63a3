-- Places of a stack where a tag stands.
use Rattle.std.specs.Prelude.{◌≡◌, ℕ, List, Some, slice_get}
use Rattle.ctw_ops.specs.Types.{ValueType}
use Rattle.ctw_stack.specs.declared.slot.Slot.{Slot}
use Rattle.ctw_stack.specs.declared.slot.Slot.TheVariants.{Known, Wide, Unknown}

-- a value with the tag stands at a place, the last operand at 0
abbrev pub HasTagAt : {S : Type 0} → S → ℕ → List (ValueType S) → Type 0
HasTagAt l n types = (t : ValueType _) × (slice_get types n ≡ Some t) × (t.tag ≡ l)

-- a slot that stands for values of the tag alone
abbrev pub IsTagged : {S : Type 0} → S → Slot S → Type 0
IsTagged l (Known width tag) = tag ≡ l
IsTagged l (Wide tag) = tag ≡ l
IsTagged l Unknown = ⊥

-- such a slot is a block's own at a place, the last one at 0
abbrev pub IsTaggedAt : {S : Type 0} → S → ℕ → List (Slot S) → Type 0
IsTaggedAt l n slots = (slot : Slot _) × (slice_get slots n ≡ Some slot) × IsTagged l slot
