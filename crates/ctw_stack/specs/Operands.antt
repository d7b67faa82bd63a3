-- The operands of one open block. What lies below a dead block's own slots isn't known; it stands for any values.
use Rattle.std.specs.Prelude.{◌≡◌, Bool, true, false, List, [], ◌∷◌, Option, Some, None}
use Rattle.ctw_ops.specs.Types.{ValueType}
use Rattle.ctw_stack.specs.declared.slot.Slot.{Slot}
use Rattle.ctw_stack.specs.declared.slot.Slot.TheVariants.{Known, Wide, Unknown}

-- a block's own slots, the last one first, and whether the rest of the block is dead
pub record Operands (S : Type 0) : Type 0 where
  pub dead : Bool
  pub slots : List (Slot S)

-- at a block's begin
abbrev pub fresh : {S : Type 0} → Operands S
fresh = record { dead = false; slots = [] }

-- behind a jump
abbrev pub killed : {S : Type 0} → Operands S
killed = record { dead = true; slots = [] }

abbrev pub push : {S : Type 0} → Slot S → Operands S → Operands S
push slot o = record { dead = o.dead; slots = slot ∷ o.slots }

-- a slot and what is left below it
pub record Popped (S : Type 0) : Type 0 where
  pub slot : Slot S
  pub rest : Operands S

-- a dead block gives slots without end, any values, below its own
abbrev pub pop_from : {S : Type 0} → Bool → List (Slot S) → Option (Popped S)
pop_from dead (slot ∷ slots) = Some (record { slot = slot; rest = record { dead = dead; slots = slots } })
pop_from true [] = Some (record { slot = Unknown; rest = killed })
pop_from false [] = None

abbrev pub pop : {S : Type 0} → Operands S → Option (Popped S)
pop o = pop_from o.dead o.slots

-- ---- what operands stand for

-- which types a slot stands for
abbrev pub Fits : {S : Type 0} → Slot S → ValueType S → Type 0
Fits (Known width tag) t = (width ≡ t.width) × (tag ≡ t.tag)
Fits (Wide tag) t = tag ≡ t.tag
Fits Unknown t = Unit {0}

-- what may lie below a block's own slots
abbrev pub Below : {S : Type 0} → Bool → List (ValueType S) → Type 0
Below false types = types ≡ []
Below true types = Unit {0}

-- slot by slot
abbrev pub Holds : {S : Type 0} → Bool → List (Slot S) → List (ValueType S) → Type 0
Holds dead [] types = Below dead types
Holds dead (slot ∷ slots) [] = ⊥
Holds dead (slot ∷ slots) (t ∷ types) = Fits slot t × Holds dead slots types

-- which stacks of types a block's operands stand for, the last operand first
abbrev pub Denotes : {S : Type 0} → Operands S → List (ValueType S) → Type 0
Denotes o types = Holds o.dead o.slots types
