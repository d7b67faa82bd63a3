-- Why a body doesn't have its function's type: the first opcode that the pass refuses,
-- and the first kind that applies to it.
use Rattle.std.specs.Prelude.{◌^◌, ℕ, suc, Bool, true, false, not, ◌&&◌, nat_le, List, [], ◌∷◌, Option, Some, None, is_some, slice_get, if◌then◌else◌}
use Rattle.std.specs.List.{list_all}
use Rattle.ctw_ops.specs.declared.types.Label.{Label}
use Rattle.ctw_ops.specs.declared.types.Label.TheVariants.{Secret}
use Rattle.ctw_ops.specs.declared.fault.SecretRule.{SecretRule}
use Rattle.ctw_ops.specs.declared.fault.SecretRule.TheVariants.{Condition, TableIndex, CallIndex, Address, Divide, GrowSize}
use Rattle.ctw_ops.specs.Types.{FunctionType, VariableType}
use Rattle.ctw_ops.specs.declared.numeric.Profile.{Profile}
use Rattle.ctw_ops.specs.Numeric.{leaks}
pub use Rattle.ctw_ops.specs.Equal.{same_label}
use Rattle.ctw_ops.specs.Code.{Leaf, Br, BrIf, BrTable, Call, CallIndirect, LocalGet, LocalSet, LocalTee, GlobalGet, GlobalSet, Load, Store, MemorySize, MemoryGrow, Numeric, Declassify, OfIf, Op, Plain, Opens, opcodes}
use Rattle.ctw_ops.specs.Typing.{Context}
use Rattle.ctw_ops.specs.Tree.{Module, Function}
use Rattle.ctw_ops.specs.Bodies.{context_of}
use Rattle.ctw_stack.specs.declared.slot.Slot.{Slot}
use Rattle.ctw_stack.specs.declared.slot.Slot.TheVariants.{Known, Wide, Unknown}
use Rattle.ctw_stack.specs.Steps.{may_call, is_trusted}
use Rattle.ctw_stack.specs.Pass.{Level, outermost, within, flat}
use Rattle.ctw_valid.specs.declared.fault.BodyFault.{BodyFault}
use Rattle.ctw_valid.specs.declared.fault.BodyFault.TheVariants.{Index, Align, Immutable, Trust, SecretPlace, WrongType}

abbrev pub names : {A : Type 0} → List A → ℕ → Bool
names things index = is_some (slice_get things index)

-- ---- the kinds, each by itself

-- whether all that an instruction names is there
abbrev pub is_there : Context Label → Leaf Label → Bool
is_there C (Br k) = names C.labels k
is_there C (BrIf k) = names C.labels k
is_there C (BrTable ks k) = names C.labels k && list_all (names C.labels) ks
is_there C (Call f) = names C.functions f
is_there C (CallIndirect y) = C.table && names C.types y
is_there C (LocalGet x) = names C.locals x
is_there C (LocalSet x) = names C.locals x
is_there C (LocalTee x) = names C.locals x
is_there C (GlobalGet x) = names C.globals x
is_there C (GlobalSet x) = names C.globals x
is_there C (Load w l bytes signed align offset) = is_some C.memory
is_there C (Store w l bytes align offset) = is_some C.memory
is_there C MemorySize = is_some C.memory
is_there C MemoryGrow = is_some C.memory
is_there C _ = true

-- whether an access's alignment passes no more than its bytes
abbrev pub is_aligned : Leaf Label → Bool
is_aligned (Load w l bytes signed align offset) = nat_le (2 ^ align) bytes
is_aligned (Store w l bytes align offset) = nat_le (2 ^ align) bytes
is_aligned _ = true

abbrev pub may_write : Option (VariableType Label) → Bool
may_write None = true
may_write (Some g) = g.mutable

-- whether no constant global is written
abbrev pub is_mutable : Context Label → Leaf Label → Bool
is_mutable C (GlobalSet x) = may_write (slice_get C.globals x)
is_mutable C _ = true

abbrev pub may_be_called : Context Label → Option (FunctionType Label) → Bool
may_be_called C None = true
may_be_called C (Some g) = may_call C.trust g.trust

-- whether the function's trust allows the instruction
abbrev pub is_allowed : Context Label → Leaf Label → Bool
is_allowed C (Call f) = may_be_called C (slice_get C.functions f)
is_allowed C (CallIndirect y) = may_be_called C (slice_get C.types y)
is_allowed C (Declassify w) = is_trusted C.trust
is_allowed C _ = true

-- a place of the operands, the last one at 0, where no secret may stand
pub record Guarded : Type 0 where
  pub rule : SecretRule
  pub place : ℕ

abbrev pub guards : SecretRule → ℕ → Option Guarded
guards rule place = Some (record { rule = rule; place = place })

abbrev pub guarded : Op Label → Option Guarded
guarded (Plain (BrIf k)) = guards Condition 0
guarded (Opens OfIf t) = guards Condition 0
guarded (Plain (BrTable ks k)) = guards TableIndex 0
guarded (Plain (CallIndirect y)) = guards CallIndex 0
guarded (Plain (Load w l bytes signed align offset)) = guards Address 0
guarded (Plain (Store w l bytes align offset)) = guards Address 1
guarded (Plain MemoryGrow) = guards GrowSize 0
guarded op = None

-- whether a slot stands for secrets alone
abbrev pub is_secret : Option (Slot Label) → Bool
is_secret None = false
is_secret (Some (Known w l)) = same_label l Secret
is_secret (Some (Wide l)) = same_label l Secret
is_secret (Some Unknown) = false

abbrev pub guarded_secret : List (Slot Label) → Option Guarded → Option SecretRule
guarded_secret slots None = None
guarded_secret slots (Some g) = if is_secret (slice_get slots g.place) then Some g.rule else None

-- the rule that a secret breaks, if one does: a secret operation that leaks, or a secret at a guarded place
abbrev pub broken_rule : Profile → Op Label → List (Slot Label) → Option SecretRule
broken_rule profile (Plain (Numeric op l)) slots = if leaks op profile && same_label l Secret then Some Divide else None
broken_rule profile op slots = guarded_secret slots (guarded op)

-- ---- the first kind that applies

abbrev pub by_type : ℕ → Option SecretRule → BodyFault
by_type at None = WrongType at
by_type at (Some rule) = SecretPlace at rule

abbrev pub leaf_or : Context Label → Leaf Label → ℕ → BodyFault → BodyFault
leaf_or C leaf at other =
    if not (is_there C leaf) then Index at
    else if not (is_aligned leaf) then Align at
    else if not (is_mutable C leaf) then Immutable at
    else if not (is_allowed C leaf) then Trust at
    else other

abbrev pub kind_of : Context Label → Op Label → ℕ → List (Slot Label) → BodyFault
kind_of C (Plain leaf) at slots = leaf_or C leaf at (by_type at (broken_rule C.profile (Plain leaf) slots))
kind_of C op at slots = by_type at (broken_rule C.profile op slots)

-- the slots of the innermost block
abbrev pub slots_of : List (Level Label) → List (Slot Label)
slots_of [] = []
slots_of (v ∷ outer) = v.block.operands.slots

-- ---- a body

-- go on behind an opcode that isn't refused
abbrev pub unless_refused : BodyFault → (List (Level Label) → Option BodyFault) → Option (List (Level Label))
    → Option BodyFault
unless_refused why go None = Some why
unless_refused why go (Some levels) = go levels

-- the first fault among opcodes, which are numbered from `at` on, with these blocks open before them
abbrev pub fault_from : Context Label → ℕ → List (Op Label) → List (Level Label) → Option BodyFault
fault_from C at [] levels = None
fault_from C at (op ∷ ops) levels =
    unless_refused (kind_of (within C levels) op at (slots_of levels)) (fault_from C (suc at) ops)
    (flat same_label C op levels)

-- the first fault of a function's body in its module; None where it has its function's type
unfoldable pub body_fault : Module Label → Function Label → Option BodyFault
body_fault m f = fault_from (context_of m f) 0 (opcodes f.body) (outermost (context_of m f))
