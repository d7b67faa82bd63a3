-- Rows of the typing's table with all names looked up: what is taken off the operands and put on,
-- and where no secret may stand.
use Rattle.std.specs.Prelude.{◌≡◌, ℕ, Bool, true, false, List, ◌∷◌, Option, Some, None, Result, Ok, Err}
use Rattle.ctw_ops.specs.declared.types.Label.{Label}
use Rattle.ctw_ops.specs.declared.types.Label.TheVariants.{Public}
use Rattle.ctw_ops.specs.declared.types.Width.TheVariants.{W32}
use Rattle.ctw_ops.specs.declared.fault.SecretRule.{SecretRule}
use Rattle.ctw_ops.specs.Types.{ValueType, value_type, byte_types}
use Rattle.ctw_ops.specs.Code.{Leaf, Op, Plain}
use Rattle.ctw_ops.specs.Typing.{Context, optional}
use Rattle.ctw_ops.specs.Segments.{and_then}
use Rattle.ctw_stack.specs.declared.slot.Slot.{Slot}
use Rattle.ctw_stack.specs.Operands.{Operands, killed}
use Rattle.ctw_stack.specs.Steps.{when, pushes, dropped, expect, expects, chosen, step}
use Rattle.ctw_valid.specs.declared.fault.BodyFault.{BodyFault}
use Rattle.ctw_valid.specs.declared.row.Types.{Types}
use Rattle.ctw_valid.specs.declared.row.Types.TheVariants.{One, Params}
use Rattle.ctw_valid.specs.declared.row.Move.{Move}
use Rattle.ctw_valid.specs.declared.row.Row.{Row}
use Rattle.ctw_valid.specs.declared.row.Row.TheVariants.{Drops, Selects, Moves}
use Rattle.ctw_stack.specs.Opens.{Open}
use Rattle.ctw_valid.specs.OnStack.{on_innermost, own_slots, Follows}
use Rattle.ctw_valid.specs.Faults.{same_label, Guarded, guards, guarded_secret, by_type, kind_of}

abbrev pub types_in : Types → List (ValueType Label)
types_in (One t) = optional t
types_in (Params bytes) = byte_types bytes.now

-- the public number under a rule, and the operand above it
abbrev pub top_types : Option SecretRule → Option (ValueType Label) → List (ValueType Label)
top_types None last = optional last
top_types (Some rule) last = value_type W32 Public ∷ optional last

-- where no secret may stand
abbrev pub guarded_at : Option SecretRule → Option (ValueType Label) → Option Guarded
guarded_at None last = None
guarded_at (Some rule) None = guards rule 0
guarded_at (Some rule) (Some t) = guards rule 1

abbrev pub put_or_dead : Bool → Option (ValueType Label) → Operands Label → Operands Label
put_or_dead true gives o = killed
put_or_dead false gives o = pushes (optional gives) o

-- the operands below the number are taken, and others are put on
abbrev pub move_below : Move → Operands Label → Option (Operands Label)
move_below m o =
    when m.fits (and_then (expects same_label (types_in m.first) o) (λ rest. Some (put_or_dead m.ends m.gives rest)))

abbrev pub move_all : Move → Operands Label → Option (Operands Label)
move_all m o = and_then (expects same_label (top_types m.index m.last) o) (move_below m)

-- what a row does to the operands; None where they don't have its types
abbrev pub row_step : Row → Operands Label → Option (Operands Label)
row_step Drops o = dropped o
row_step (Selects l) o = and_then (expect same_label (value_type W32 l) o) (chosen same_label l)
row_step (Moves m) o = move_all m o

abbrev pub row_guard : Row → Option Guarded
row_guard Drops = None
row_guard (Selects l) = None
row_guard (Moves m) = guarded_at m.index m.last

-- the fault where the operands don't have a row's types
abbrev pub row_fault : Row → ℕ → List (Slot Label) → BodyFault
row_fault row at slots = by_type at (guarded_secret slots (row_guard row))

-- the instruction's row
pub record IsRow (C : Context Label) (leaf : Leaf Label) (row : Row) : Type 0 where
  pub same : (o : Operands Label) → step same_label C leaf o ≡ row_step row o
  pub kind : (at : ℕ) (slots : List (Slot Label)) → kind_of C (Plain leaf) at slots ≡ row_fault row at slots

-- the instruction is refused whatever the operands are
pub record IsBarred (C : Context Label) (leaf : Leaf Label) (at : ℕ) (fault : BodyFault) : Type 0 where
  pub refused : (o : Operands Label) → step same_label C leaf o ≡ None
  pub kind : (slots : List (Slot Label)) → kind_of C (Plain leaf) at slots ≡ fault

abbrev pub LooksUp : Context Label → Leaf Label → ℕ → Result Row BodyFault → Type 0
LooksUp C leaf at (Ok row) = IsRow C leaf row
LooksUp C leaf at (Err fault) = IsBarred C leaf at fault

-- the same of an opcode; nothing is said of one that opens or closes a block
abbrev pub LooksUpOp : Context Label → Op Label → ℕ → Result Row BodyFault → Type 0
LooksUpOp C (Plain leaf) at result = LooksUp C leaf at result
LooksUpOp C op at result = Unit {0}

-- a leaf was stepped over at the innermost block, or its fault was answered
abbrev pub OnLeaf : Context Label → Op Label → ℕ → Result (Unit {0}) BodyFault → List (Open Label) → List (Open Label)
    → Type 0
OnLeaf C (Plain leaf) at result old new =
    Follows result (on_innermost (step same_label C leaf) old) new (kind_of C (Plain leaf) at (own_slots old))
OnLeaf C op at result old new = Unit {0}
