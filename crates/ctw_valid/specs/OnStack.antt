-- What a call did to the innermost block of a stack.
use Rattle.std.specs.Prelude.{◌≡◌, ◌≢◌, ◌≤◌, ◌+◌, ℕ, List, [], ◌∷◌, length, Option, Some, None, Result, Ok, Err}
use Rattle.ctw_ops.specs.declared.types.Label.{Label}
use Rattle.ctw_ops.specs.Segments.{and_then}
use Rattle.ctw_stack.specs.declared.slot.Slot.{Slot}
use Rattle.ctw_stack.specs.Operands.{Operands}
use Rattle.ctw_stack.specs.Opens.{Open, Taken, with_operands, slot_count}
use Rattle.ctw_valid.specs.declared.fault.BodyFault.{BodyFault}
use Rattle.ctw_valid.specs.declared.fault.BodyFault.TheVariants.{NoMemory}

-- a step on operands, at the innermost block; None where it is refused or no block is open
abbrev pub on_innermost : (Operands Label → Option (Operands Label)) → List (Open Label) → Option (List (Open Label))
on_innermost f [] = None
on_innermost f (b ∷ outer) = and_then (f b.operands) (λ o. Some (with_operands b o ∷ outer))

-- the slots of the innermost block
abbrev pub own_slots : List (Open Label) → List (Slot Label)
own_slots [] = []
own_slots (b ∷ outer) = b.operands.slots

-- a call's answer is the pass's; else it is this fault, or memory ran out
abbrev pub Follows : {A B : Type 0} → Result A BodyFault → Option B → B → BodyFault → Type 0
Follows (Ok x) answer new why = answer ≡ Some new
Follows (Err e) answer new why = e ≢ NoMemory → (answer ≡ None) × (e ≡ why)

-- the same of a slot that is taken
abbrev pub Takes : Result (Slot Label) BodyFault → Option (Taken Label) → List (Open Label) → BodyFault → Type 0
Takes (Ok slot) answer new why = answer ≡ Some (record { slot = slot; blocks = new })
Takes (Err e) answer new why = (answer ≡ None) × (e ≡ why)

-- as many blocks are open, with at most so many slots more
pub record IsKept (old new : List (Open Label)) (more : ℕ) : Type 0 where
  pub blocks : length new ≡ length old
  pub slots : slot_count new ≤ slot_count old + more
