-- What the steps of `infer` say, by findings that are so.
use Rattle.std.specs.Prelude.{◌≡◌, ℕ, false, List, length, true, Some, Result, Ok, Err}
use Rattle.std.specs.Str.{is_utf8}
use Rattle.ctw_io.specs.Files.{Files}
use Rattle.ctw_ops.specs.declared.types.Label.{Label}
use Rattle.ctw_ops.specs.declared.numeric.Profile.{Profile}
use Rattle.ctw_ops.specs.Tree.{Module, under}
use Rattle.ctw_ops.specs.Valid.{IsValid}
use Rattle.ctw_form.specs.Spelled.{Spells}
use Rattle.ctw_marks.specs.Readings.{MarkList}
use Rattle.ctw_infer.specs.declared.fault.InferFault.{InferFault}
use Rattle.ctw_inputs.specs.Saying.{Saying}
use Rattle.ctw_inputs.specs.declared.said.Stop.{Stop}
use Rattle.ctw_inputs.specs.declared.said.Stop.TheVariants as stop
use Rattle.ctw_inputs.specs.Inputs.{on_text, read_valid}
use Rattle.ctw_inputs.specs.Settling.{SaysAll}
use Rattle.ctw_words.specs.Words.{Infer}
use Rattle.ctw_labels.specs.Points.{AreReleases}
use Rattle.ctw_labels.specs.SitedModule.{sites}
use Rattle.ctw_inputs.specs.Outcome.{Outcome}
use Rattle.ctwasm_top.specs.declared.inferring.Labelled.{Labelled}
use Rattle.ctwasm_top.specs.Inference.{Found, LabelsModule, IsFound, on_labelling, labelled_by, inferred}
use Rattle.ctwasm_top.specs.Answer.{FindsMarks, infer_answer}

-- something is so of what was said, unless nothing was
abbrev pub OnSaid : Result Saying Stop → (Saying → Type 0) → Type 0
OnSaid (Ok said) is_so = is_so said
OnSaid (Err (stop.Says said)) is_so = is_so said
OnSaid (Err stop.ReadFault) is_so = Unit {0}
OnSaid (Err stop.NoMemory) is_so = Unit {0}

-- why marks give a module no labelling, and what is then said, whatever would be done with one
pub record SaysNone (m : Module Label) (marks : MarkList) (said : Saying) : Type 0 where
  pub fault : InferFault
  pub refused : LabelsModule m marks (Err fault)
  pub says : (go : List Label → Outcome) → SaysAll said (on_labelling m (Err fault) go)

-- the least labelling by marks
abbrev pub GivesLabels : Module Label → MarkList → Result (List Label) Stop → Type 0
GivesLabels m marks (Ok labels) = LabelsModule m marks (Ok labels)
GivesLabels m marks (Err why) = OnSaid (Err why) (SaysNone m marks)

-- what is said where a text of marks gives a module no labelling, whatever would be done with one
pub record SaysOther (m : Module Label) (text : List ℕ) (said : Saying) : Type 0 where
  pub found : Found
  pub is_so : m.ct ≡ false → IsFound m text found
  pub says : (go : MarkList → List Label → Outcome) → SaysAll said (labelled_by found m go)

-- a plain module's least labelling by a text of marks, which has these marks
pub record FindsLabels (m : Module Label) (text : List ℕ) (marks : MarkList) (labels : List Label) : Type 0 where
  pub plain : m.ct ≡ false
  pub found : IsFound m text (record { marks = Ok marks; labels = Ok labels })

abbrev pub LabelsBy : Module Label → List ℕ → Result Labelled Stop → Type 0
LabelsBy m text (Ok l) = FindsLabels m text l.marks l.labels
LabelsBy m text (Err why) = OnSaid (Err why) (SaysOther m text)

-- the labelling is one of a plain module's sites, and its releases stand in trusted functions
pub record IsOfSites (m : Module Label) (l : Labelled) : Type 0 where
  pub plain : m.ct ≡ false
  pub sites : l.sites ≡ sites m
  pub labels : length l.labels ≡ length l.sites
  pub points : AreReleases l.marks.points

-- and of a module by a text of marks
pub record SaysModule (m : Module Label) (text : List ℕ) (said : Saying) : Type 0 where
  pub found : Found
  pub is_so : m.ct ≡ false → IsFound m text found
  pub says : SaysAll said (inferred found m)

-- and by the bytes of a module's file and a text of marks
pub record SaysBytes (profile : Profile) (file marks_file bytes marks : List ℕ) (said : Saying) : Type 0 where
  pub found : Found
  pub is_so : is_utf8 marks ≡ true → (t : Module Label) → Spells bytes t → IsValid (under profile t) → t.ct ≡ false
      → IsFound (under profile t) marks found
  pub says : SaysAll said (on_text marks_file marks (λ text. read_valid profile file bytes (inferred found)))

-- and by the files of a module and of marks
pub record SaysFiles (files : Files) (profile : Profile) (file marks : List ℕ) (said : Saying) : Type 0 where
  pub found : Found
  pub is_so : FindsMarks (Some (Infer profile file marks)) files found
  pub says : SaysAll said (infer_answer files found profile file marks)
