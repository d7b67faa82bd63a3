-- Steps over a linked set.
use Rattle.std.specs.Prelude.{◌≡◌, ◌≤◌, ℕ, zero, suc, true, List, length, Ok, Option, Result, IfOk}
use Rattle.std.specs.declared.alloc.AllocError.{AllocError}
use Rattle.ctw_ops.specs.declared.types.Label.{Label}
use Rattle.ctw_ops.specs.Types.{ValueType}
use Rattle.ctw_ops.specs.Code.{Code, Op}
use Rattle.ctw_flat.specs.Places.{instr_in}
use Rattle.ctw_flat.specs.declared.instr.Instr.{Instr}
use Rattle.ctw_semantics.specs.Values.{Value}
use Rattle.ctw_semantics.specs.Stores.{Storage}
use Rattle.ctw_semantics.specs.Instances.{FunctionInstance}
use Rattle.ctw_semantics.specs.Activations.{Activation}
use Rattle.ctw_semantics.specs.Machine.{Here, put, red}
use Rattle.ctw_semantics.specs.Sound.{Shape, SoundSet, SoundStorage, SoundCall}
use Rattle.ctw_link.specs.declared.set.Part.{Part}
use Rattle.ctw_step.specs.declared.running.Stepped.{Stepped}
use Rattle.ctw_step.specs.Shown.{Shown}
use Rattle.ctw_link.specs.Linked.{code_in}
use Rattle.ctw_step.specs.SetInstances.{instances}
use Rattle.ctw_step.specs.Stands.{Stands}
use Rattle.ctw_step.specs.Told.{Tells, Meets}
use Rattle.ctw_step.specs.Changes.{is_change}
use Rattle.ctw_step.specs.Reducing.{InPart}

-- ---- the changes of a label in front of a counted instruction

-- so many of them stand from a place on, up to another
abbrev pub FreeBy : List ℕ → ℕ → ℕ → ℕ → Type 0
FreeBy bytes zero at place = place ≡ at
FreeBy bytes (suc n) at place =
    (mid : ℕ) × (op : Op Label) × (is_change op ≡ true) × FreeBy bytes n at mid × (instr_in bytes mid ≡ Ok (op, place))

-- an instruction stands at a place
abbrev pub HasInstr : List ℕ → ℕ → Type 0
HasInstr bytes at = (at ≤ length bytes) × (op : Op Label) × (next : ℕ) × (instr_in bytes at ≡ Ok (op, next))

-- a counted reduction was taken, and weighed
abbrev pub Counts : List Part → ℕ → List ℕ → Shown → Instr → ℕ → Storage → Result Stepped AllocError → Shown → Storage
    → Type 0
Counts parts part bytes c i next s result c' s' =
    (fn : FunctionInstance) (h : Here) (code : Code Label) (vs : List Value) → InPart parts part h.func fn
    → Meets (code_in parts) bytes c i next (instances parts) fn s h code vs
    → IfOk result
    (λ r.
    Tells (code_in parts) s' c' r (red (instances parts) s (put h code vs)).answer
    (red (instances parts) s (put h code vs)).event)

-- ---- calls of a set

-- A running call stands for this activation: a sound call of the functions of a linked set, over a sound store of a
-- shape, that will give a result of this type.
pub record Standing (parts : List Part) (s : Storage) (c : Shown) (shape : Shape) (last : Option (ValueType Label))
    (a : Activation) : Type 0 where
  pub functions : SoundSet (instances parts) shape
  pub storage : SoundStorage shape s
  pub call : SoundCall (instances parts) shape last a
  pub stands : Stands (code_in parts) c a

-- it stands for some
pub record CanStep (parts : List Part) (s : Storage) (c : Shown) : Type 0 where
  pub shape : Shape
  pub last : Option (ValueType Label)
  pub activation : Activation
  pub standing : Standing parts s c shape last activation
