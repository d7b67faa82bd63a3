-- Which activation a running call stands for. Bodies are given by their bytes.
use Rattle.std.specs.Prelude.{◌≡◌, ◌<◌, ℕ, ◌+◌, true, false, List, [], ◌∷◌, ◌++◌, map, length, Option, Some, None, is_some}
use Rattle.ctw_ops.specs.declared.types.Label.{Label}
use Rattle.ctw_ops.specs.Types.{ValueType}
use Rattle.ctw_ops.specs.Code.{Code, Loop, Closer}
use Rattle.ctw_ops.specs.Segments.{Segment, segment}
use Rattle.ctw_flat.specs.Positions.{At}
use Rattle.ctw_semantics.specs.Values.{Value}
use Rattle.ctw_semantics.specs.Activations.{Open, Frame, Activation}
use Rattle.ctw_step.specs.declared.running.Opened.{Opened}
use Rattle.ctw_step.specs.declared.running.Caller.{Caller}
use Rattle.ctw_step.specs.Shown.{Shown}

-- the bytes of each function's body
abbrev pub Codes : Type 0
Codes = ℕ → List ℕ

abbrev pub number_of : Value → ℕ
number_of v = v.number

-- the numbers of operands, the last one last
abbrev pub numbers : List Value → List ℕ
numbers [] = []
numbers (v ∷ vs) = numbers vs ++ v.number ∷ []

abbrev pub operands_of : List Open → List ℕ
operands_of [] = []
operands_of (o ∷ os) = operands_of os ++ numbers o.values

abbrev pub all_operands : Activation → List ℕ
all_operands [] = []
all_operands (f ∷ fs) = all_operands fs ++ operands_of f.labels

abbrev pub all_locals : Activation → List ℕ
all_locals [] = []
all_locals (f ∷ fs) = all_locals fs ++ map number_of f.locals

abbrev pub upward : List Opened → List Opened
upward [] = []
upward (r ∷ rs) = upward rs ++ r ∷ []

-- where a loop's instruction stands, in front of what the label outside goes on with
abbrev pub AgainStands : List ℕ → Opened → Option (Code Label) → Option (ValueType Label) → List Open → Type 0
AgainStands bytes r None t os = r.is_loop ≡ false
AgainStands bytes r (Some body) t [] = ⊥
AgainStands bytes r (Some body) t (o ∷ os) =
    (closer : Closer) × (tail : List (Segment Label)) × (r.is_loop ≡ true)
    × At bytes r.start (segment (Loop t body o.code) closer ∷ tail)

-- what is left of a sequence stands at a place
pub record CodeStands (bytes : List ℕ) (at : ℕ) (code : Code Label) : Type 0 where
  pub closer : Closer
  pub tail : List (Segment Label)
  pub stands : At bytes at (segment code closer ∷ tail)

-- a record stands for an open label: its height counts the operands of all labels and frames outside
pub record LabelStands (bytes : List ℕ) (under at : ℕ) (r : Opened) (o : Open) (os : List Open) : Type 0 where
  pub code : CodeStands bytes at o.code
  pub height : r.height ≡ under + length (operands_of os)
  pub has_result : r.has_result ≡ is_some o.result
  pub again : AgainStands bytes r o.again o.result os

abbrev pub LabelsStand : List ℕ → ℕ → ℕ → List Opened → List Open → Type 0
LabelsStand bytes under at [] [] = Unit {0}
LabelsStand bytes under at (r ∷ rs) (o ∷ os) = LabelStands bytes under at r o os × LabelsStand bytes under r.after rs os
LabelsStand bytes under at _ _ = ⊥

-- a frame's record and those of its labels
pub record FrameRecords : Type 0 where
  pub frame : Caller
  pub labels : List Opened

abbrev pub all_labels : List FrameRecords → List Opened
all_labels [] = []
all_labels (r ∷ rs) = all_labels rs ++ upward r.labels

abbrev pub all_frames : List FrameRecords → List Caller
all_frames [] = []
all_frames (r ∷ rs) = all_frames rs ++ r.frame ∷ []

pub record FrameStands (codes : Codes) (at : ℕ) (r : FrameRecords) (rs : List FrameRecords) (f : Frame)
    (fs : List Frame) : Type 0 where
  pub func : r.frame.func ≡ f.func
  pub locals : r.frame.locals ≡ length (all_locals fs)
  pub below : r.frame.labels ≡ length (all_labels rs)
  pub some : 0 < length r.labels
  pub labels : LabelsStand (codes f.func) (length (all_operands fs)) at r.labels f.labels

abbrev pub FramesStand : Codes → ℕ → List FrameRecords → List Frame → Type 0
FramesStand codes at [] [] = Unit {0}
FramesStand codes at (r ∷ rs) (f ∷ fs) = FrameStands codes at r rs f fs × FramesStand codes r.frame.back rs fs
FramesStand codes at _ _ = ⊥

-- a running call stands for an activation
pub record Stands (codes : Codes) (c : Shown) (a : Activation) : Type 0 where
  pub records : List FrameRecords
  pub operands : c.operands ≡ all_operands a
  pub locals : c.locals ≡ all_locals a
  pub labels : c.labels ≡ all_labels records
  pub frames : c.frames ≡ all_frames records
  pub places : FramesStand codes c.at records a
