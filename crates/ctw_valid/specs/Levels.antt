-- The open blocks of a pass, with which of them are then arms.
use Rattle.std.specs.Prelude.{◌≡◌, ◌≤◌, ◌+◌, ℕ, Bool, true, false, Result, List, [], ◌∷◌, length, reverse}
use Rattle.ctw_ops.specs.declared.types.Label.{Label}
use Rattle.ctw_ops.specs.Code.{Shape, OfBlock, OfLoop, Op, Plain}
use Rattle.ctw_ops.specs.Typing.{Context}
use Rattle.ctw_stack.specs.Opens.{Open, slot_count}
use Rattle.ctw_stack.specs.Pass.{Level, within, flat}
use Rattle.ctw_valid.specs.declared.fault.BodyFault.{BodyFault}
use Rattle.ctw_valid.specs.declared.levels.Levels.{Levels}
use Rattle.ctw_valid.specs.Faults.{same_label, kind_of, slots_of}
use Rattle.ctw_valid.specs.OnStack.{Follows}

abbrev pub levels_of : List Bool → List (Open Label) → List (Level Label)
levels_of [] blocks = []
levels_of (arm ∷ arms) [] = []
levels_of (arm ∷ arms) (b ∷ blocks) = record { arm = arm; block = b } ∷ levels_of arms blocks

-- innermost first
abbrev pub levels_in : Levels → List (Level Label)
levels_in s = levels_of (reverse s.arms.items) s.stack

-- what opens a block that is a loop, or isn't
abbrev pub opener : Bool → Shape
opener true = OfLoop
opener false = OfBlock

-- it is known of each block whether it is a then arm
abbrev pub IsEven : Levels → Type 0
IsEven s = length s.arms.items ≡ length s.stack

-- the same behind one opcode, with at most one slot more
pub record IsNext (old new : Levels) : Type 0 where
  pub even : IsEven new
  pub slots : slot_count new.stack ≤ slot_count old.stack + 1

-- one opcode was passed, or its fault was answered
abbrev pub Passes : Context Label → Op Label → ℕ → Result (Unit {0}) BodyFault → List (Level Label) → List (Level Label)
    → Type 0
Passes C op at result old new =
    Follows result (flat same_label C op old) new (kind_of (within C old) op at (slots_of old))

-- the same of an opcode that opens and closes no block; nothing is said of others
abbrev pub PassesLeaf : Context Label → Op Label → ℕ → Result (Unit {0}) BodyFault → List (Level Label)
    → List (Level Label) → Type 0
PassesLeaf C (Plain leaf) at result old new = Passes C (Plain leaf) at result old new
PassesLeaf C op at result old new = Unit {0}
