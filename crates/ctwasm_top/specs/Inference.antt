-- What is found out about a text of marks and a plain module: how the marks read, and how the module is labelled.
use Rattle.std.specs.Prelude.{[], ◌≡◌, ◌≢◌, ℕ, List, length, if◌then◌else◌, Result, Ok, Err}
use Rattle.ctw_ops.specs.declared.types.Label.{Label}
use Rattle.ctw_ops.specs.Plain.{IsPlainModule}
use Rattle.ctw_ops.specs.Tree.{Module}
use Rattle.ctw_ops.specs.Valid.{IsValid}
use Rattle.ctw_labels.specs.Points.{Points, AreReleases}
use Rattle.ctw_labels.specs.Links.{at_tag}
use Rattle.ctw_labels.specs.SitedModule.{sites}
use Rattle.ctw_labels.specs.Placed.{placed}
use Rattle.ctw_labels.specs.Fits.{Mark, Fits, IsLabelling, IsBelowAll, label_at}
use Rattle.ctw_least.specs.Marked.{marks_on}
use Rattle.ctw_marks.specs.declared.fault.MarkFault.{MarkFault}
use Rattle.ctw_marks.specs.declared.fault.MarkFault.TheVariants as mark
use Rattle.ctw_marks.specs.Readings.{MarkList, HasReading, HasFault}
use Rattle.ctw_infer.specs.declared.fault.InferFault.{InferFault}
use Rattle.ctw_infer.specs.declared.fault.InferFault.TheVariants as infer
use Rattle.ctw_infer.specs.Answers.{IsInferable, IsRefused}
use Rattle.ctw_write.specs.Canon.{canon}
use Rattle.ctw_witness.specs.Lines.{flow_text}
use Rattle.ctw_lines.specs.Lines.{marks_line, infer_line}
use Rattle.ctw_inputs.specs.declared.said.Status.TheVariants.{Done, Refused, NoLabelling}
use Rattle.ctw_inputs.specs.Outcome.{Outcome, ends}

-- ---- what is found out

pub record Found : Type 0 where
  pub marks : Result MarkList MarkFault
  pub labels : Result (List Label) InferFault

-- the labels that marks give the sites of a module
abbrev pub asked : Module Label → MarkList → List Mark
asked m marks = marks_on (sites m) marks.labels

-- a labelling that fits, and is below each other one that does
pub record IsLeast (m : Module Label) (marks : MarkList) (labels : List Label) : Type 0 where
  pub labelling : IsLabelling m labels
  pub fits : Fits m marks.points (asked m marks) (label_at labels)
  pub least : (k : ℕ → Label) → Fits m marks.points (asked m marks) k → IsBelowAll (length (sites m)) (label_at labels) k

-- the text has these marks, or this fault
abbrev pub ReadsMarks : Module Label → List ℕ → Result MarkList MarkFault → Type 0
ReadsMarks m text (Ok marks) = HasReading m text marks
ReadsMarks m text (Err fault) = HasFault m text fault × (fault ≢ mark.NoMemory)

-- the least labelling, or why there is none
abbrev pub LabelsModule : Module Label → MarkList → Result (List Label) InferFault → Type 0
LabelsModule m marks (Ok labels) = IsInferable m × IsLeast m marks labels
LabelsModule m marks (Err fault) = IsRefused m marks.points (asked m marks) fault × (fault ≢ infer.NoMemory)

-- all this is so of a plain module and a text
pub record IsFound (m : Module Label) (text : List ℕ) (found : Found) : Type 0 where
  pub read : ReadsMarks m text found.marks
  pub labelled : (marks : MarkList) → found.marks ≡ Ok marks → LabelsModule m marks found.labels

-- ---- what is answered

-- the placed module under a labelling
abbrev pub placed_by : Module Label → MarkList → List Label → Module Label
placed_by m marks labels = placed (at_tag (label_at labels)) m marks.points

-- goes on with a labelling; else the lines of a flow, or a refusal
abbrev pub on_labelling : Module Label → Result (List Label) InferFault → (List Label → Outcome) → Outcome
on_labelling m (Ok labels) go = go labels
on_labelling m (Err infer.Labelled) go = ends Refused (infer_line infer.Labelled)
on_labelling m (Err (infer.TooManySites count)) go = ends Refused (infer_line (infer.TooManySites count))
on_labelling m (Err (infer.TrustCall caller at callee)) go =
    ends Refused (infer_line (infer.TrustCall caller at callee))
on_labelling m (Err (infer.TrustTable func)) go = ends Refused (infer_line (infer.TrustTable func))
on_labelling m (Err (infer.Flow w)) go = ends NoLabelling (flow_text (sites m) w)
on_labelling m (Err infer.NoMemory) go = ends Refused (infer_line infer.NoMemory)

-- goes on with the marks that a text has
abbrev pub on_marks : Result MarkList MarkFault → (MarkList → Outcome) → Outcome
on_marks (Ok marks) go = go marks
on_marks (Err fault) go = ends Refused (marks_line fault)

-- a CT module has its labels
abbrev pub unless_labelled : Module Label → Outcome → Outcome
unless_labelled m go = if m.ct then ends Refused (infer_line infer.Labelled) else go

-- a module is labelled by the marks of a text
abbrev pub labelled_by : Found → Module Label → (MarkList → List Label → Outcome) → Outcome
labelled_by found m go = unless_labelled m (on_marks found.marks (λ marks. on_labelling m found.labels (go marks)))

-- what `infer` writes of it: the canonical bytes of the placed module
abbrev pub on_labels : Module Label → MarkList → Result (List Label) InferFault → Outcome
on_labels m marks labels = on_labelling m labels (λ labels. ends Done (canon (placed_by m marks labels)))

abbrev pub inferred : Found → Module Label → Outcome
inferred found m = labelled_by found m (λ marks labels. ends Done (canon (placed_by m marks labels)))

-- ---- without trust

-- a valid plain module, placed under a labelling and points that trust no function
pub record IsPlacedUntrusted (t : Module Label) : Type 0 where
  pub m : Module Label
  pub plain : IsPlainModule m
  pub valid : IsValid m
  pub points : Points
  pub releases : AreReleases points
  pub untrusted : points.trusted ≡ []
  pub labels : ℕ → Label
  pub is_placed : t ≡ placed (at_tag labels) m points
