-- A running call that stands for a place: its innermost records, and what stands after a change.
use Rattle.std.proofs.Common.{◌≡◌, ℕ, List, [], ◌∷◌, ◌++◌, ◌<◌, arith, map, length, refl, sym, ap, ◌∙◌, append_assoc}
use Rattle.ctw_ops.specs.declared.types.Label.{Label}
use Rattle.ctw_ops.specs.Code.{Code}
use Rattle.ctw_semantics.specs.Values.{Value}
use Rattle.ctw_semantics.specs.Activations.{Open, Frame}
use Rattle.ctw_semantics.specs.Machine.{Here, innermost, with_labels, put}
use Rattle.ctw_step.specs.declared.running.Opened.{Opened}
use Rattle.ctw_step.specs.declared.running.Caller.{Caller}
use Rattle.ctw_step.specs.Shown.{Shown}
use Rattle.ctw_step.specs.Stands.{Codes, number_of, numbers, operands_of, all_operands, all_locals, upward, CodeStands, LabelStands, LabelsStand, FrameRecords, all_labels, all_frames, FramesStand, Stands}

-- the frame with these labels at a place
abbrev pub frame_at : Here → List Open → Frame
frame_at h labels = record { func = h.func; locals = h.locals; labels = labels }

-- the records of the innermost frame, and those of its callers
pub record Framed (codes : Codes) (c : Shown) (h : Here) (opens : List Open) : Type 0 where
  pub frame : Caller
  pub records : List Opened
  pub others : List FrameRecords
  pub func : frame.func ≡ h.func
  pub first : frame.locals ≡ length (all_locals h.callers)
  pub below : frame.labels ≡ length (all_labels others)
  pub stand : LabelsStand (codes h.func) (length (all_operands h.callers)) c.at records opens
  pub callers : FramesStand codes frame.back others h.callers
  pub operands : c.operands ≡ all_operands h.callers ++ operands_of opens
  pub locals : c.locals ≡ all_locals h.callers ++ map number_of h.locals
  pub labels : c.labels ≡ all_labels others ++ upward records
  pub frames : c.frames ≡ all_frames others ++ frame ∷ []

pub framed : (codes : Codes) (c : Shown) (h : Here) (labels : List Open) → Stands codes c (with_labels h labels) → Framed codes c h labels
framed codes c h labels st = go st.records st.labels st.frames st.places
  where
    go : (rs : List FrameRecords) → c.labels ≡ all_labels rs → c.frames ≡ all_frames rs → FramesStand codes c.at rs (frame_at h labels ∷ h.callers) → Framed codes c h labels
    go [] l f p = absurd p
    go (r ∷ rs) l f p = record {
      frame = r.frame;
      records = r.labels;
      others = rs;
      func = p.0.func;
      first = p.0.locals;
      below = p.0.below;
      stand = p.0.labels;
      callers = p.1;
      operands = st.operands;
      locals = st.locals;
      labels = l;
      frames = f;
    }

-- and back, with other labels and other locals
pub stands_again : (codes : Codes) (c c' : Shown) (h : Here) (labels labels' : List Open) (locals' : List Value) (f : Framed codes c h labels) (records' : List Opened) → 0 < length records'
    → LabelsStand (codes h.func) (length (all_operands h.callers)) c'.at records' labels' → c'.operands ≡ all_operands h.callers ++ operands_of labels' → c'.locals ≡ all_locals h.callers ++ map number_of locals'
    → c'.labels ≡ all_labels f.others ++ upward records' → c'.frames ≡ c.frames → Stands codes c' (with_labels (record h { locals = locals' }) labels')
stands_again codes c c' h labels labels' locals' f records' some st eo el eb ef = record {
  records = record { frame = f.frame; labels = records' } ∷ f.others;
  operands = eo;
  locals = el;
  labels = eb;
  frames = ef ∙ f.frames;
  places = (record { func = f.func; locals = f.first; below = f.below; some = some; labels = st }, f.callers);
}

-- the innermost label's record, and those of the labels outside
pub record Inner (codes : Codes) (c : Shown) (h : Here) (code : Code Label) (vs : List Value) : Type 0 where
  pub framed : Framed codes c h (innermost h code vs ∷ h.outer)
  pub record_of : Opened
  pub records : List Opened
  pub are : framed.records ≡ record_of ∷ records
  pub head : LabelStands (codes h.func) (length (all_operands h.callers)) c.at record_of (innermost h code vs) h.outer
  pub tail : LabelsStand (codes h.func) (length (all_operands h.callers)) record_of.after records h.outer

pub inner : (codes : Codes) (c : Shown) (h : Here) (code : Code Label) (vs : List Value) → Stands codes c (put h code vs) → Inner codes c h code vs
inner codes c h code vs st = let f = framed codes c h (innermost h code vs ∷ h.outer) st in go f f.records refl f.stand
  where
    go : (f : Framed codes c h (innermost h code vs ∷ h.outer)) (rs : List Opened) → f.records ≡ rs → LabelsStand (codes h.func) (length (all_operands h.callers)) c.at rs (innermost h code vs ∷ h.outer) → Inner codes c h code vs
    go f [] e p = absurd p
    go f (r ∷ rs) e p = record { framed = f; record_of = r; records = rs; are = e; head = p.0; tail = p.1 }

-- the code that runs stands at the place
pub code_here : (codes : Codes) (c : Shown) (h : Here) (code : Code Label) (vs : List Value) → Inner codes c h code vs → CodeStands (codes h.func) c.at code
code_here codes c h code vs i = i.head.code

-- the operands below the innermost label's
abbrev pub under : Here → List ℕ
under h = all_operands h.callers ++ operands_of h.outer

pub operands_are : (codes : Codes) (c : Shown) (h : Here) (code : Code Label) (vs : List Value) → Inner codes c h code vs → c.operands ≡ under h ++ numbers vs
operands_are codes c h code vs i = i.framed.operands ∙ sym (append_assoc (all_operands h.callers) (operands_of h.outer) (numbers vs))

-- the same labels, with other code and operands in the innermost, and other locals
pub goes_on : (codes : Codes) (c c' : Shown) (h : Here) (code rest : Code Label) (vs ws : List Value) (locals' : List Value) → Inner codes c h code vs → CodeStands (codes h.func) c'.at rest
    → c'.operands ≡ under h ++ numbers ws → c'.locals ≡ all_locals h.callers ++ map number_of locals' → c'.labels ≡ c.labels → c'.frames ≡ c.frames
    → Stands codes c' (put (record h { locals = locals' }) rest ws)
goes_on codes c c' h code rest vs ws locals' i sp eo el eb ef =
    stands_again codes c c' h (innermost h code vs ∷ h.outer) (innermost h rest ws ∷ h.outer) locals' i.framed (i.record_of ∷ i.records) (omega arith)
    (record { code = sp; height = i.head.height; has_result = i.head.has_result; again = i.head.again }, i.tail)
    (eo ∙ append_assoc (all_operands h.callers) (operands_of h.outer) (numbers ws)) el (eb ∙ i.framed.labels ∙ ap (λ rs. all_labels i.framed.others ++ upward rs) i.are) ef
