-- Running calls whose operands have the types that the instructions in front of their places give them.
use Rattle.std.specs.Prelude.{◌≡◌, ℕ, suc, List, [], ◌∷◌, map, Option, Some, None, slice_get}
use Rattle.ctw_ops.specs.declared.types.Label.{Label}
use Rattle.ctw_ops.specs.Types.{ValueType}
use Rattle.ctw_ops.specs.Code.{Code, IfElse, Closer, ByEnd, ByElse}
use Rattle.ctw_ops.specs.Typing.{optional, upon}
use Rattle.ctw_semantics.specs.Values.{Value}
use Rattle.ctw_semantics.specs.Instances.{FunctionInstance, Functions}
use Rattle.ctw_semantics.specs.Activations.{Open, Frame, Activation}
use Rattle.ctw_semantics.specs.Answers.{Answer, Goes}
use Rattle.ctw_semantics.specs.Steps.{Left, Running}
use Rattle.ctw_semantics.specs.Machine.{target_type}
use Rattle.ctw_semantics.specs.Places.{behind, Opens}
use Rattle.ctw_semantics.specs.Sound.{Shape, IndexTypes, context, FunctionTyped, target_types}
use Rattle.ctw_unique.specs.Leading.{Leads}

abbrev pub types_of : List Value → List (ValueType Label)
types_of values = map (λ v. v.type) values

-- what closes the sequence inside an instruction that opens it: an `else` closes the first arm where there are two
abbrev pub ClosedBy : Closer → Code Label → Code Label → Type 0
ClosedBy ByElse (IfElse t arm other rest) inside = inside ≡ arm
ClosedBy ByEnd (IfElse t arm other rest) inside = inside ≡ other
ClosedBy ByElse code inside = ⊥
ClosedBy ByEnd code inside = Unit {0}

-- An open label with this sequence, inside these labels: so many of its instructions stand in front of its place, and
-- lead from no operands to its own, with what arrives put upon them.
abbrev pub OpenHolds : IndexTypes → FunctionInstance → List (Option (ValueType Label)) → List (ValueType Label) → ℕ
    → Code Label → Open → Type 0
OpenHolds names fn labels arrives n inside o =
    Leads (context names fn (target_type o.again o.result ∷ labels)) n inside [] o.code
    (upon arrives (types_of o.values))

-- The labels outside one with this closer, result, loop body and sequence, by their own closers. The instruction that
-- opens the one inside is the last in front of each one's place.
abbrev pub OutsideHold : IndexTypes → FunctionInstance → Closer → Option (ValueType Label) → Option (Code Label)
    → Code Label → List Closer → List Open → Type 0
OutsideHold names fn closer t again inside [] [] =
    (closer ≡ ByEnd) × (t ≡ fn.type.result) × (again ≡ None) × (inside ≡ fn.body)
OutsideHold names fn closer t again inside (k ∷ ks) (o ∷ outer) =
    (whole : Code Label) × (n : ℕ) × Opens (behind n whole) t again inside o.code × ClosedBy closer (behind n whole) inside
    × OpenHolds names fn (target_types outer) (optional t) (suc n) whole o
    × OutsideHold names fn k o.result o.again whole ks outer
OutsideHold names fn closer t again inside _ _ = ⊥

abbrev pub LabelsHold : IndexTypes → FunctionInstance → List (ValueType Label) → List Closer → List Open → Type 0
LabelsHold names fn arrives (k ∷ ks) (o ∷ outer) =
    (inside : Code Label) × (n : ℕ) × OpenHolds names fn (target_types outer) arrives n inside o
    × OutsideHold names fn k o.result o.again inside ks outer
LabelsHold names fn arrives _ _ = ⊥

-- a frame of this function that goes on when these values arrive, by a typing of its body
pub record FrameHolds (fns : Functions) (shape : Shape) (arrives : List (ValueType Label)) (closers : List Closer)
    (fn : FunctionInstance) (f : Frame) : Type 0 where
  pub found : slice_get fns f.func ≡ Some fn
  pub typed : FunctionTyped fns shape fn
  pub labels : LabelsHold typed.names fn arrives closers f.labels

-- the callers of a function with this result
abbrev pub CallersHold : Functions → Shape → Option (ValueType Label) → List (List Closer) → List Frame → Type 0
CallersHold fns shape t [] [] = Unit {0}
CallersHold fns shape t (closers ∷ others) (f ∷ callers) =
    (fn : FunctionInstance) × FrameHolds fns shape (optional t) closers fn f
    × CallersHold fns shape fn.type.result others callers
CallersHold fns shape t _ _ = ⊥

-- Each operand has the one type that the instructions in front of it give it by the typing of its function's body, in
-- sequences that are closed so: for each frame and each of its labels, the innermost first.
abbrev pub HoldsByBodies : Functions → Shape → List (List Closer) → Activation → Type 0
HoldsByBodies fns shape (closers ∷ others) (f ∷ callers) =
    (fn : FunctionInstance) × FrameHolds fns shape [] closers fn f
    × CallersHold fns shape fn.type.result others callers
HoldsByBodies fns shape _ _ = ⊥

-- what a reduction or a step goes on with does so too, in sequences that are closed in some way
abbrev pub StillHolds : Functions → Shape → Answer → Type 0
StillHolds fns shape (Goes s a) = (closers : List (List Closer)) × HoldsByBodies fns shape closers a
StillHolds fns shape answer = Unit {0}

-- what a turn leaves running does so too
abbrev pub LeftHolds : Functions → Shape → Left → Type 0
LeftHolds fns shape (Running a) = (closers : List (List Closer)) × HoldsByBodies fns shape closers a
LeftHolds fns shape left = Unit {0}
