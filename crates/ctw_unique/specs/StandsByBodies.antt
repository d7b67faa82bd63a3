-- A running call that stands for an activation with operands as its bodies lead to them.
use Rattle.std.specs.Prelude.{ℕ, List, [], ◌∷◌, length}
use Rattle.ctw_ops.specs.Code.{Closer}
use Rattle.ctw_semantics.specs.Instances.{Functions}
use Rattle.ctw_semantics.specs.Activations.{Open, Frame, Activation}
use Rattle.ctw_semantics.specs.Sound.{Shape}
use Rattle.ctw_step.specs.declared.running.Opened.{Opened}
use Rattle.ctw_step.specs.Shown.{Shown}
use Rattle.ctw_step.specs.Stands.{Codes, all_operands, LabelsStand, FrameRecords, FramesStand, Stands}
use Rattle.ctw_unique.specs.ByBodies.{HoldsByBodies}

-- what closes the sequence of each open label, by the bytes at its place
abbrev pub label_closers : (bytes : List ℕ) (under at : ℕ) (rs : List Opened) (os : List Open)
    → LabelsStand bytes under at rs os → List Closer
label_closers bytes under at (r ∷ rs) (o ∷ os) s = s.0.code.closer ∷ label_closers bytes under r.after rs os s.1
label_closers bytes under at _ _ s = []

abbrev pub frame_closers : (codes : Codes) (at : ℕ) (rs : List FrameRecords) (fs : List Frame)
    → FramesStand codes at rs fs → List (List Closer)
frame_closers codes at (r ∷ rs) (f ∷ fs) s =
    label_closers (codes f.func) (length (all_operands fs)) at r.labels f.labels s.0.labels
    ∷ frame_closers codes r.frame.back rs fs s.1
frame_closers codes at _ _ s = []

-- Each operand has the one type that the instructions in front of it give it, in the sequences whose closers stand in
-- the bytes.
pub record StandsByBodies (fns : Functions) (shape : Shape) (codes : Codes) (c : Shown) (a : Activation) : Type 0 where
  pub stands : Stands codes c a
  pub holds : HoldsByBodies fns shape (frame_closers codes c.at stands.records a stands.places) a
