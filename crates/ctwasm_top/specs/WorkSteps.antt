-- What the steps of `work` say, by findings that are so.
use Rattle.std.specs.Prelude.{◌≡◌, ◌⊎◌, ℕ, List, [], length, Vec, Some, Option, Result, Ok, Err}
use Rattle.std.specs.declared.alloc.Global.{Global}
use Rattle.ctw_io.specs.Files.{Files}
use Rattle.ctw_ops.specs.declared.types.Label.{Label}
use Rattle.ctw_ops.specs.declared.numeric.Profile.{Profile}
use Rattle.ctw_ops.specs.Tree.{Module}
use Rattle.ctw_write.specs.Canon.{canon}
use Rattle.ctw_gen.specs.Workload.{marks}
use Rattle.ctw_workloads.specs.Placed.{workload_under}
use Rattle.ctw_marks.specs.Readings.{MarkList}
use Rattle.ctw_inputs.specs.Saying.{Saying}
use Rattle.ctw_inputs.specs.declared.said.Status.{Status}
use Rattle.ctw_inputs.specs.declared.said.Status.TheVariants.{Done}
use Rattle.ctw_inputs.specs.declared.said.Stop.{Stop}
use Rattle.ctw_inputs.specs.Outcome.{Outcome}
use Rattle.ctw_inputs.specs.Settling.{IsStop, SaysAll}
use Rattle.ctwasm_top.specs.declared.working.PlacedWork.{PlacedWork}
use Rattle.ctwasm_top.specs.Inference.{Found, IsFound, placed_by, labelled_by}
use Rattle.ctwasm_top.specs.Works.{secrets, work_answer}
use Rattle.ctwasm_top.specs.Findings.{OnSaid}
use Rattle.ctwasm_top.specs.Headline.{DidTold, WroteNothing}

-- the placed module under the least labelling by a text of marks
pub record IsPlacedWork (m : Module Label) (text : List ℕ) (p : PlacedWork) : Type 0 where
  pub marks : MarkList
  pub labels : List Label
  pub found : IsFound m text (record { marks = Ok marks; labels = Ok labels })
  pub bytes : p.bytes.items ≡ canon (placed_by m marks labels)
  pub sites : p.sites ≡ length labels
  pub secret : p.secret ≡ secrets labels

-- what is said of a plain module in its place
pub record SaysOtherWork (m : Module Label) (text : List ℕ) (said : Saying) : Type 0 where
  pub found : Found
  pub is_so : IsFound m text found
  pub says : (go : MarkList → List Label → Outcome) → SaysAll said (labelled_by found m go)

abbrev pub PlacesWork : Module Label → List ℕ → Result PlacedWork Stop → Type 0
PlacesWork m text (Ok p) = IsPlacedWork m text p
PlacesWork m text (Err why) = OnSaid (Err why) (SaysOtherWork m text)

-- an outcome that is done with this text, and saves nothing
pub record IsText (o : Outcome) (text : List ℕ) : Type 0 where
  pub out : o.out ≡ text
  pub status : o.status ≡ Done
  pub saves : o.saves ≡ []

abbrev pub TellsLine : Result (Vec ℕ Global) Stop → Outcome → Type 0
TellsLine (Ok line) o = IsText o line.items
TellsLine (Err why) o = IsStop why o

-- the answer of `work` by a finding on the workload
pub record AnswersWork (profile : Profile) (seed size : ℕ) (Is : Outcome → Type 0) : Type 0 where
  pub found : Found
  pub is_so : IsFound (workload_under profile seed size) marks found
  pub is : Is (work_answer found profile seed size)

abbrev pub TellsWork : Profile → ℕ → ℕ → Result (Vec ℕ Global) Stop → Type 0
TellsWork profile seed size (Ok line) = AnswersWork profile seed size (λ o. IsText o line.items)
TellsWork profile seed size (Err why) = OnSaid (Err why) (λ said. AnswersWork profile seed size (SaysAll said))

-- what was done is the answer's by a finding on the workload, or nothing was written
pub record DidWork (profile : Profile) (seed size : ℕ) (status : Status) (files : Files) (taken took : Option (List ℕ))
    : Type 0 where
  pub found : Found
  pub is_so : IsFound (workload_under profile seed size) marks found ⊎ WroteNothing status taken took
  pub did : DidTold status (work_answer found profile seed size) files (Some files) taken took
