-- The clauses of the top call.
use Rattle.std.specs.Prelude.{◌≡◌, ◌≢◌, ◌≤◌, ◌⊎◌, ℕ, false, List, [], ◌∷◌, map, length, Option, Some, None, option_map, Result, Ok, Err, All}
use Rattle.std.specs.Str.{bytes_eq}
use Rattle.std.specs.FinMap.{get, insert}
use Rattle.ctw_ops.specs.WithinLimits.{IsOctet}
use Rattle.ctw_io.specs.Files.{Files, IsHalfSaved}
use Rattle.ctw_io.specs.Faults.{Rose}
use Rattle.ctw_io.specs.Taken.{grown, TookPrefix}
use Rattle.ctw_link.specs.Matching.{AreMatching}
use Rattle.ctw_link.specs.SetInstances.{AllValid}
use Rattle.ctw_launch.specs.ErasedSets.{erase_set}
use Rattle.ctw_moves.specs.Runs.{plays}
use Rattle.ctw_moves.specs.ErasedRuns.{erase_state, erase_moves, erase_run}
use Rattle.ctw_moves.specs.LaunchedStates.{Ready, launch}
use Rattle.ctw_inputs.specs.declared.said.Status.{Status}
use Rattle.ctw_inputs.specs.declared.said.Status.TheVariants.{Done, Refused, Usage, NoLabelling, ReadFault, WriteFault, NoMemory, SaveFault}
use Rattle.ctw_inputs.specs.declared.said.Stop.{Stop}
use Rattle.ctw_inputs.specs.declared.said.Stop.TheVariants as stop
use Rattle.ctw_inputs.specs.Saying.{Saying}
use Rattle.ctw_inputs.specs.Outcome.{Execution, Outcome}
use Rattle.ctw_ops.specs.declared.types.Label.{Label}
use Rattle.ctw_ops.specs.Tree.{Module, under}
use Rattle.ctw_ops.specs.Erasure.{erase_module}
use Rattle.ctw_form.specs.Spelled.{Spells}
use Rattle.ctw_script.specs.declared.moves.Move.{Move}
use Rattle.ctw_script.specs.declared.script.ScriptFault.{ScriptFault}
use Rattle.ctw_write.specs.Canon.{canon}
use Rattle.ctw_labels.specs.Kept.{IsKept}
use Rattle.ctw_labels.specs.ModuleLinks.{links, musts}
use Rattle.ctw_labels.specs.SitedModule.{sites}
use Rattle.ctw_labels.specs.Fits.{Fits}
use Rattle.ctw_sites.specs.Flow.{Flow}
use Rattle.ctw_sites.specs.Packed.{most_sites}
use Rattle.ctw_marks.specs.declared.fault.MarkFault.{MarkFault}
use Rattle.ctw_marks.specs.declared.fault.MarkFault.TheVariants as mark
use Rattle.ctw_marks.specs.Readings.{MarkList, HasReading, HasFault}
use Rattle.ctw_infer.specs.declared.fault.InferFault.{InferFault}
use Rattle.ctw_infer.specs.declared.fault.InferFault.TheVariants as infer
use Rattle.ctw_infer.specs.Answers.{IsLeastFlow, IsRefused, FitsNone}
use Rattle.ctw_witness.specs.Lines.{flow_text}
use Rattle.ctw_lines.specs.Lines.{marks_line, infer_line}
use Rattle.ctw_words.specs.Words.{Command, LoadsFiles, command_of}
use Rattle.ctw_moves.specs.SoundStates.{HasBytes}
use Rattle.ctwasm_top.specs.Inference.{Found, IsLeast, IsPlacedUntrusted, asked, placed_by}
use Rattle.ctwasm_top.specs.Answer.{answer, FindsMarks}

-- the files after saves, one after another
abbrev pub with_saves : Files → List (List ℕ × List ℕ) → Files
with_saves files [] = files
with_saves files ((name, bytes) ∷ saves) = with_saves (insert files name bytes) saves

-- the files after saves of which one failed
abbrev pub AreHalfSaved : Files → List (List ℕ × List ℕ) → Files → Type 0
AreHalfSaved before [] after = ⊥
AreHalfSaved before ((name, bytes) ∷ saves) after =
    IsHalfSaved before name bytes (Some after) ⊎ AreHalfSaved (insert before name bytes) saves after

-- what a call with this status did: to the files, from before to after, and to what out has taken
abbrev pub Did : Status → Outcome → Files → Files → Option (List ℕ) → Option (List ℕ) → Type 0
Did ReadFault a before after taken took = (after ≡ before) × (took ≡ taken)
Did WriteFault a before after taken took = (after ≡ before) × TookPrefix taken took a.out
Did NoMemory a before after taken took = (after ≡ before) × TookPrefix taken took a.out
Did SaveFault a before after taken took =
    AreHalfSaved before a.saves after × (took ≡ grown taken a.out) × (a.status ≡ Done)
Did status a before after taken took =
    (status ≡ a.status) × (after ≡ with_saves before a.saves) × (took ≡ grown taken a.out)

-- a fault of reading or want of memory, and nothing was written
abbrev pub WroteNothing : Status → Option (List ℕ) → Option (List ℕ) → Type 0
WroteNothing ReadFault taken took = took ≡ taken
WroteNothing NoMemory taken took = took ≡ taken
WroteNothing status taken took = ⊥

-- a command stops for a fault of reading or want of memory
abbrev pub SaysNothing : Result Saying Stop → Type 0
SaysNothing (Ok said) = ⊥
SaysNothing (Err (stop.Says said)) = ⊥
SaysNothing (Err stop.ReadFault) = Unit {0}
SaysNothing (Err stop.NoMemory) = Unit {0}

-- the shelf still tells its files, and this was done
pub record DidTold (status : Status) (a : Outcome) (before : Files) (after : Option Files)
    (taken took : Option (List ℕ)) : Type 0 where
  pub files : Files
  pub told : after ≡ Some files
  pub did : Did status a before files taken took

-- Wrong words alone are a wrong use, and each fault has its cause, from counts of the shelf's and the sink's faults
-- before and after. No file is read for words that load none.
pub record HasCauses (command : Option Command) (status : Status) (shelf shelf_after out out_after : ℕ)
    (taken took : Option (List ℕ)) : Type 0 where
  pub usage : status ≡ Usage → command ≡ None
  pub read : status ≡ ReadFault → LoadsFiles command × Rose shelf shelf_after × (took ≡ taken)
  pub write : status ≡ WriteFault → Rose out out_after
  pub save : status ≡ SaveFault → Rose shelf shelf_after

-- a status that a whole text goes with
abbrev pub IsAnswer : Status → Type 0
IsAnswer Done = Unit {0}
IsAnswer Refused = Unit {0}
IsAnswer Usage = Unit {0}
IsAnswer NoLabelling = Unit {0}
IsAnswer _ = ⊥

-- the contents of files are bytes
abbrev pub AreOctets : Files → Type 0
AreOctets files = (name bytes : List ℕ) → get files name ≡ Some bytes → All IsOctet bytes

-- other files, which differ in the bytes of VAULT alone, of which there are as many
pub record OtherVault (vault : List ℕ) (f g : Files) : Type 0 where
  pub others : (name : List ℕ) → bytes_eq vault name ≡ false → get f name ≡ get g name
  pub long : option_map (λ (bytes : List ℕ). length bytes) (get f vault)
      ≡ option_map (λ (bytes : List ℕ). length bytes) (get g vault)

-- where bytes are saved, and how many
abbrev pub saved_size : List ℕ × List ℕ → List ℕ × ℕ
saved_size (name, bytes) = (name, length bytes)

-- the same bytes for out, the same status, and equally many bytes to save
pub record SameOutcome (a b : Outcome) : Type 0 where
  pub out : a.out ≡ b.out
  pub status : a.status ≡ b.status
  pub saves : map saved_size a.saves ≡ map saved_size b.saves

-- The erased set is valid, matches and launches into the erased state, and the erased moves do there what the moves did,
-- erased.
pub record RunsStripped (e : Execution) : Type 0 where
  pub valid : AllValid (erase_set e.set)
  pub matching : AreMatching (erase_set e.set)
  pub launched : launch (erase_set e.set) [] ≡ Ready (erase_state e.set e.state)
  pub plays : plays (erase_set e.set) (erase_state e.set e.state) (erase_moves e.set e.state e.moves)
      ≡ erase_run e.set e.state e.moves

-- what is executed, if anything is, is a set of modules placed without trust, and moves of bytes
abbrev pub ExecutesUntrusted : Option Execution → Type 0
ExecutesUntrusted None = Unit {0}
ExecutesUntrusted (Some e) = All (λ p. IsPlacedUntrusted p.tree) e.set × All HasBytes e.moves

-- ---- marks

-- what was done is the answer's by a finding that is so of the marks, or nothing was written
pub record DidFound (words : List (List ℕ)) (reading : Result (List Move) ScriptFault) (status : Status) (before : Files)
    (after : Option Files) (taken took : Option (List ℕ)) : Type 0 where
  pub found : Found
  pub is_so : FindsMarks (command_of words) before found ⊎ WroteNothing status taken took
  pub did : DidTold status (answer words before reading found) before after taken took

-- a reader takes these bytes for this module: they spell a module that is this one under its profile
abbrev pub IsReadAs : List ℕ → Module Label → Type 0
IsReadAs bytes m = (tree : Module Label) × Spells bytes tree × (m ≡ under m.profile tree)

-- What inference of a plain module by the marks of a text did, where it came to an end: it wrote the placed module of the
-- least labelling exactly where one fits, as bytes that a reader takes for it, and its erasure is the module; it wrote the
-- lines of a least flow exactly where trust is kept and none fits, and else the line of a refusal.
pub record HasInferred (m : Module Label) (marks : MarkList) (status : Status) (taken took : Option (List ℕ)) : Type 0 where
  pub labelled : status ≡ Done → (labels : List Label) × IsLeast m marks labels
      × (took ≡ grown taken (canon (placed_by m marks labels)))
      × IsReadAs (canon (placed_by m marks labels)) (placed_by m marks labels)
      × (erase_module (placed_by m marks labels) ≡ m)
  pub flow : status ≡ NoLabelling → IsKept m marks.points × FitsNone m marks.points (asked m marks)
      × ((w : Flow) × IsLeastFlow (links m marks.points) (musts m marks.points) (asked m marks) w
      × (took ≡ grown taken (flow_text (sites m) w)))
  pub refused : status ≡ Refused → (fault : InferFault) × IsRefused m marks.points (asked m marks) fault
      × ((w : Flow) → fault ≢ infer.Flow w) × (fault ≢ infer.NoMemory) × (took ≡ grown taken (infer_line fault))
  pub fitting : length (sites m) ≤ most_sites → (k : ℕ → Label) → Fits m marks.points (asked m marks) k → status ≡ Done
  pub none_fits : length (sites m) ≤ most_sites → IsKept m marks.points → FitsNone m marks.points (asked m marks)
      → status ≡ NoLabelling

-- the marks have a reading, by which the module was labelled or not; or they have a fault, which was told
pub data DidInfer (m : Module Label) (text : List ℕ) (status : Status) (taken took : Option (List ℕ)) : Type 0 where
  ByMarks : (marks : MarkList) (read : HasReading m text marks) (inferred : HasInferred m marks status taken took)
      → DidInfer m text status taken took
  BadMarks : (fault : MarkFault) (cause : HasFault m text fault) (not_want : fault ≢ mark.NoMemory)
      (refused : status ≡ Refused) (line : took ≡ grown taken (marks_line fault)) → DidInfer m text status taken took
