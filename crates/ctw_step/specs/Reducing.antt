-- Counted reductions over a linked set.
use Rattle.std.specs.Prelude.{◌≡◌, false, ℕ, List, Some, slice_get, Result, IfOk}
use Rattle.std.specs.declared.alloc.AllocError.{AllocError}
use Rattle.ctw_ops.specs.declared.types.Label.{Label}
use Rattle.ctw_ops.specs.Code.{Code}
use Rattle.ctw_flat.specs.declared.instr.Instr.{Instr}
use Rattle.ctw_flat.specs.Instructions.{op_of}
use Rattle.ctw_semantics.specs.Values.{Value}
use Rattle.ctw_semantics.specs.Stores.{Storage}
use Rattle.ctw_semantics.specs.Instances.{FunctionInstance}
use Rattle.ctw_semantics.specs.Machine as Machine
use Rattle.ctw_semantics.specs.Machine.{Here}
use Rattle.ctw_link.specs.declared.set.Part.{Part}
use Rattle.ctw_link.specs.Sets.{set_of}
use Rattle.ctw_link.specs.Numbers.{owners}
use Rattle.ctw_step.specs.declared.running.Stepped.{Stepped}
use Rattle.ctw_step.specs.Shown.{Shown}
use Rattle.ctw_link.specs.Linked.{code_in}
use Rattle.ctw_step.specs.SetInstances.{instances}
use Rattle.ctw_step.specs.Told.{Tells, Meets}
use Rattle.ctw_step.specs.Changes.{is_change}

-- the function of this number is this one, and this part defines it
pub record InPart (parts : List Part) (part func : ℕ) (fn : FunctionInstance) : Type 0 where
  pub index : ℕ
  pub owner : slice_get (owners (set_of parts)) func ≡ Some (part, index)
  pub found : slice_get (instances parts) func ≡ Some fn

-- a call stands before this instruction, and isn't stuck
pub record CanReduce (parts : List Part) (part : ℕ) (bytes : List ℕ) (c : Shown) (i : Instr) (next : ℕ)
    (s : Storage) : Type 0 where
  pub fn : FunctionInstance
  pub place : Here
  pub code : Code Label
  pub values : List Value
  pub inside : InPart parts part place.func fn
  pub meets : Meets (code_in parts) bytes c i next (instances parts) fn s place code values

-- this instruction's reduction was taken, from each place where a call can take it
abbrev pub Reduces : List Part → ℕ → List ℕ → Shown → Instr → ℕ → Storage → Result Stepped AllocError → Shown → Storage
    → Type 0
Reduces parts part bytes c i next s result c' s' =
    (fn : FunctionInstance) (h : Here) (code : Code Label) (vs : List Value) → InPart parts part h.func fn
    → Meets (code_in parts) bytes c i next (instances parts) fn s h code vs
    → IfOk result
    (λ r.
    Tells (code_in parts) s' c' r (Machine.next (instances parts) fn s h code vs).answer
    (Machine.next (instances parts) fn s h code vs).event)

-- all but the changes of a label
abbrev pub IsCounted : Instr → Type 0
IsCounted i = is_change (op_of i) ≡ false
