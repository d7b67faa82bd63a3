-- The collector's pass over sited code: it tests no tags, and puts each value under its push's site.
use Rattle.std.specs.Prelude.{◌≡◌, true, List, [], ◌∷◌, Option, Some, None, is_none}
use Rattle.ctw_ops.specs.declared.types.Trust.TheVariants.{Trusted}
use Rattle.ctw_ops.specs.Code.{Leaf, CallIndirect, Classify, Declassify, Load, Store}
use Rattle.ctw_ops.specs.Typing.{Context, optional, i32, inside}
use Rattle.ctw_ops.specs.Segments.{and_then}
use Rattle.ctw_stack.specs.declared.slot.Slot.{Slot}
use Rattle.ctw_stack.specs.declared.slot.Slot.TheVariants.{Known}
use Rattle.ctw_stack.specs.Operands.{Operands, fresh}
use Rattle.ctw_stack.specs.Steps.{when, pushes, expect, step}
use Rattle.ctw_stack.proofs.TreePass.{closes}
use Rattle.ctw_labels.specs.Sited.{yes, Lift, Sited, Done, Does, Uses, Blocks, Loops, Ifs, IfElses, lifted, with_user}

abbrev pub walk : {S : Type 0} → Context S → Sited S → Operands S → Option (Operands S)
walk C Done o = Some o
walk C (Does i l rest) o = and_then (step yes C i o) (λ m. walk C rest (lifted l m))
walk C (Uses y g l rest) o = and_then (step yes (with_user g C) (CallIndirect 0) o) (λ m. walk C rest (lifted l m))
walk C (Blocks t l body rest) o = when (closes yes t (walk (inside t C) body fresh)) (walk C rest (lifted l (pushes (optional t) o)))
walk C (Loops t l body rest) o = when (closes yes t (walk (inside None C) body fresh)) (walk C rest (lifted l (pushes (optional t) o)))
walk C (Ifs t l arm rest) o =
    when (is_none t) (when (closes yes t (walk (inside t C) arm fresh)) (and_then (expect yes (i32 C) o) (λ m. walk C rest (lifted l (pushes (optional t) m)))))
walk C (IfElses t l arm other rest) o =
    when (closes yes t (walk (inside t C) arm fresh)) (when (closes yes t (walk (inside t C) other fresh)) (and_then (expect yes (i32 C) o) (λ m. walk C rest (lifted l (pushes (optional t) m)))))

abbrev pub OnSome : {A : Type 0} → Option A → (A → Type 0) → Type 0
OnSome None P = Unit {0}
OnSome (Some x) P = P x

-- a lift stands behind a value of its width under its source's tag
abbrev pub IsTop : {S : Type 0} → Lift S → List (Slot S) → Type 0
IsTop l [] = ⊥
IsTop l (x ∷ xs) = x ≡ Known l.width l.source

abbrev pub IsLift : {S : Type 0} → Context S → Option (Lift S) → Operands S → Type 0
IsLift C None o = Unit {0}
IsLift C (Some l) o = IsTop l o.slots × (l.free ≡ true → C.trust ≡ Trusted)

-- a leaf of plain code that isn't an indirect call; a load or a store has the memory's tag
abbrev pub IsPlainLeaf : {S : Type 0} → Option S → Leaf S → Type 0
IsPlainLeaf r (Classify w) = ⊥
IsPlainLeaf r (Declassify w) = ⊥
IsPlainLeaf r (CallIndirect y) = ⊥
IsPlainLeaf r (Load w l bytes signed align offset) = (m : _) → r ≡ Some m → m ≡ l
IsPlainLeaf r (Store w l bytes align offset) = (m : _) → r ≡ Some m → m ≡ l
IsPlainLeaf r _ = Unit {0}

abbrev pub IsSited : {S : Type 0} → Context S → Sited S → Operands S → Type 0
IsSited C Done o = Unit {0}
IsSited C (Does i l rest) o = IsPlainLeaf C.memory i × OnSome (step yes C i o) (λ m. IsLift C l m × IsSited C rest (lifted l m))
IsSited C (Uses y g l rest) o = OnSome (step yes (with_user g C) (CallIndirect 0) o) (λ m. IsLift C l m × IsSited C rest (lifted l m))
IsSited C (Blocks t l body rest) o = IsSited (inside t C) body fresh × IsLift C l (pushes (optional t) o) × IsSited C rest (lifted l (pushes (optional t) o))
IsSited C (Loops t l body rest) o = IsSited (inside None C) body fresh × IsLift C l (pushes (optional t) o) × IsSited C rest (lifted l (pushes (optional t) o))
IsSited C (Ifs t l arm rest) o = IsSited (inside t C) arm fresh × OnSome (expect yes (i32 C) o) (λ m. IsLift C l (pushes (optional t) m) × IsSited C rest (lifted l (pushes (optional t) m)))
IsSited C (IfElses t l arm other rest) o =
    IsSited (inside t C) arm fresh × IsSited (inside t C) other fresh × OnSome (expect yes (i32 C) o) (λ m. IsLift C l (pushes (optional t) m) × IsSited C rest (lifted l (pushes (optional t) m)))
