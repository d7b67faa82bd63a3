-- The answer of the program, word by word.
use Rattle.std.proofs.Common.{◌≡◌, ◌≢◌, ◌⊎◌, inl, inr, ℕ, List, Option, Some, None, Result, Ok, Err, refl, sym, ◌∙◌, subst}
use Rattle.ctw_io.specs.Files.{Files}
use Rattle.ctw_io.specs.Faults.{Rose}
use Rattle.ctw_ops.specs.declared.numeric.Profile.{Profile}
use Rattle.ctw_script.specs.declared.moves.Move.{Move}
use Rattle.ctw_script.specs.declared.script.ScriptFault.{ScriptFault}
use Rattle.ctw_inputs.specs.Saying.{Saying}
use Rattle.ctw_inputs.specs.declared.said.Stop.{Stop}
use Rattle.ctw_inputs.specs.declared.said.Stop.TheVariants as stop
use Rattle.ctw_inputs.specs.declared.said.Status.{Status}
use Rattle.ctw_inputs.specs.declared.said.Status.TheVariants as status
use Rattle.ctw_inputs.specs.Outcome.{Outcome}
use Rattle.ctw_inputs.specs.Settling.{SaysSo, HasReadCause, Reads}
use Rattle.ctw_words.specs.SessionWords.{RunWords}
use Rattle.ctw_io.specs.Taken.{grown}
use Rattle.ctw_marks.specs.declared.fault.MarkFault.TheVariants as mark
use Rattle.ctw_infer.specs.declared.fault.InferFault.TheVariants as infer
use Rattle.ctw_words.specs.Words.{Command, Infer, Run, Work, LoadsFiles, command_of}
use Rattle.ctwasm_top.specs.Inference.{Found}
use Rattle.ctwasm_top.specs.Answer.{on_words, answer, ReadsScript, FindsMarks}
use Rattle.ctwasm_top.specs.Findings.{OnSaid, SaysFiles}
use Rattle.ctwasm_top.specs.Headline.{Did, DidTold, DidFound, HasCauses, IsAnswer, WroteNothing, SaysNothing}
use Rattle.ctwasm_top.specs.ValidCalls.{HoldsScript}
use Rattle.ctwasm_top.specs.WorkSteps.{DidWork}

-- ---- the words of a command

-- what is found where no marks are named
pub nothing_found : Found
nothing_found = record { marks = Err mark.NoMemory; labels = Err infer.NoMemory }

module _ (words : List (List ℕ)) (files : Files) (o : Option Command) (e : command_of words ≡ o) where
  pub on_command : (reading : Result (List Move) ScriptFault) (found : Found) (result : Status) (after : Option Files) (taken took : Option (List ℕ)) → FindsMarks o files found ⊎ WroteNothing result taken took
      → DidTold result (on_words files reading found o) files after taken took → DidFound words reading result files after taken took
  unfolding answer
  on_command reading found result after taken took is_so d = record {
    found = found;
    is_so = subst (λ (o : Option Command). FindsMarks o files found ⊎ WroteNothing result taken took) (sym e) is_so;
    did = subst (λ (o : Option Command). DidTold result (on_words files reading found o) files after taken took) (sym e) d;
  }

  pub reads_command : (reading : Result (List Move) ScriptFault) → ReadsScript (command_of words) files reading → ReadsScript o files reading
  reads_command reading h = subst (λ (o : Option Command). ReadsScript o files reading) e h

  pub command_reads : (reading : Result (List Move) ScriptFault) → ReadsScript o files reading → ReadsScript (command_of words) files reading
  command_reads reading h = subst (λ (o : Option Command). ReadsScript o files reading) (sym e) h

pub command_causes : (words : List (List ℕ)) (o : Option Command) → command_of words ≡ o → (result : Status) (shelf shelf_after out out_after : ℕ) (taken took : Option (List ℕ))
    → HasCauses o result shelf shelf_after out out_after taken took → HasCauses (command_of words) result shelf shelf_after out out_after taken took
command_causes words o e result shelf shelf_after out out_after taken took h = subst (λ (o : Option Command). HasCauses o result shelf shelf_after out out_after taken took) (sym e) h

-- ---- what is written of a text

-- no file is changed
pub says_command : (words : List (List ℕ)) (files : Files) (o : Option Command) → command_of words ≡ o → (reading : Result (List Move) ScriptFault) (found : Found) (result : Status) (said : Result Saying Stop) (before after : Option Files) (taken took : Option (List ℕ))
    → before ≡ Some files → after ≡ before → FindsMarks o files found ⊎ WroteNothing result taken took → SaysSo said (on_words files reading found o) → ((files : Files) (o : Outcome) → SaysSo said o → Did result o files files taken took)
    → DidFound words reading result files after taken took
says_command words files o e reading found result said before after taken took told unchanged is_so says did =
    on_command words files o e reading found result after taken took is_so (record { files = files; told = unchanged ∙ told; did = did files (on_words files reading found o) says })

-- what was said of files of marks, by a finding
pub says_inferred : (words : List (List ℕ)) (files : Files) (profile : Profile) (file marks : List ℕ) → command_of words ≡ Some (Infer profile file marks) → (reading : Result (List Move) ScriptFault) (result : Status) (said : Result Saying Stop) (before after : Option Files)
    (taken took : Option (List ℕ)) → before ≡ Some files → after ≡ before → OnSaid said (SaysFiles files profile file marks) → (SaysNothing said → WroteNothing result taken took) → ((files : Files) (o : Outcome) → SaysSo said o → Did result o files files taken took)
    → DidFound words reading result files after taken took
says_inferred words files profile file marks e reading result (Ok said) before after taken took told unchanged is_so want did =
    says_command words files (Some (Infer profile file marks)) e reading is_so.found result (Ok said) before after taken took told unchanged (inl is_so.is_so) is_so.says did
says_inferred words files profile file marks e reading result (Err (stop.Says said)) before after taken took told unchanged is_so want did =
    says_command words files (Some (Infer profile file marks)) e reading is_so.found result (Err (stop.Says said)) before after taken took told unchanged (inl is_so.is_so) is_so.says did
says_inferred words files profile file marks e reading result (Err stop.ReadFault) before after taken took told unchanged is_so want did =
    says_command words files (Some (Infer profile file marks)) e reading nothing_found result (Err stop.ReadFault) before after taken took told unchanged (inr (want tt)) tt did
says_inferred words files profile file marks e reading result (Err stop.NoMemory) before after taken took told unchanged is_so want did =
    says_command words files (Some (Infer profile file marks)) e reading nothing_found result (Err stop.NoMemory) before after taken took told unchanged (inr (want tt)) tt did

-- what `work` did, which reads and changes no file
pub did_work : (words : List (List ℕ)) (files : Files) (profile : Profile) (seed size : ℕ) → command_of words ≡ Some (Work profile seed size) → (reading : Result (List Move) ScriptFault) (result : Status) (before : Option Files) (taken took : Option (List ℕ)) → before ≡ Some files
    → DidWork profile seed size result files taken took → DidFound words reading result files before taken took
did_work words files profile seed size e reading result before taken took told d =
    on_command words files (Some (Work profile seed size)) e reading d.found result before taken took d.is_so (record { files = d.did.files; told = told ∙ d.did.told; did = d.did.did })

pub work_causes : (profile : Profile) (seed size : ℕ) (result : Status) (shelf out out_after : ℕ) (taken took : Option (List ℕ)) → (result ≡ status.WriteFault → Rose out out_after) → (result ≢ status.ReadFault) × (result ≢ status.SaveFault) × (result ≢ status.Usage)
    → HasCauses (Some (Work profile seed size)) result shelf shelf out out_after taken took
work_causes profile seed size result shelf out out_after taken took write quiet = record {
  usage = λ e. absurd (quiet.2 e);
  read = λ e. absurd (quiet.0 e);
  write = write;
  save = λ e. absurd (quiet.1 e);
}

pub settled_causes : (command : Option Command) (result : Status) (said : Result Saying Stop) (shelf shelf_after out out_after : ℕ) (taken took : Option (List ℕ)) → LoadsFiles command → HasReadCause shelf shelf_after said
    → (result ≡ status.ReadFault → (said ≡ Err stop.ReadFault) × (took ≡ taken)) → (result ≡ status.WriteFault → Rose out out_after) → (result ≢ status.SaveFault) × (result ≢ status.Usage)
    → HasCauses command result shelf shelf_after out out_after taken took
settled_causes command result said shelf shelf_after out out_after taken took loads cause read write quiet = record {
  usage = λ e. absurd (quiet.1 e);
  read = λ e. (loads, cause.failed (read e).0, (read e).1);
  write = write;
  save = λ e. absurd (quiet.0 e);
}

-- for wrong words
pub written_causes : (result : Status) (shelf out out_after : ℕ) (taken took : Option (List ℕ)) → (result ≡ status.WriteFault → Rose out out_after) → (result ≢ status.ReadFault) × (result ≢ status.SaveFault)
    → HasCauses None result shelf shelf out out_after taken took
written_causes result shelf out out_after taken took write quiet = record {
  usage = λ e. refl;
  read = λ e. absurd (quiet.0 e);
  write = write;
  save = λ e. absurd (quiet.1 e);
}

-- ---- what a status says of the answer

module _ (words : List (List ℕ)) (files : Files) (reading : Result (List Move) ScriptFault) (result : Status) (after : Option Files) (taken took : Option (List ℕ)) (d : DidFound words reading result files after taken took) where
  -- the finding is so where all is written
  found_so : (s : Status) → (WroteNothing s taken took → ⊥) → FindsMarks (command_of words) files d.found ⊎ WroteNothing s taken took → FindsMarks (command_of words) files d.found
  found_so s never (inl h) = h
  found_so s never (inr h) = absurd (never h)

  pub done_answer : result ≡ status.Done → (answer words files reading d.found).status ≡ status.Done
  done_answer e = sym (subst (λ (s : Status). DidTold s (answer words files reading d.found) files after taken took) e d.did).did.0

  pub done_found : result ≡ status.Done → FindsMarks (command_of words) files d.found
  done_found e = found_so status.Done (λ n. n) (subst (λ (s : Status). FindsMarks (command_of words) files d.found ⊎ WroteNothing s taken took) e d.is_so)

  pub refused_answer : result ≡ status.Refused → (answer words files reading d.found).status ≡ status.Refused
  refused_answer e = sym (subst (λ (s : Status). DidTold s (answer words files reading d.found) files after taken took) e d.did).did.0

  pub refused_found : result ≡ status.Refused → FindsMarks (command_of words) files d.found
  refused_found e = found_so status.Refused (λ n. n) (subst (λ (s : Status). FindsMarks (command_of words) files d.found ⊎ WroteNothing s taken took) e d.is_so)

  -- an answer that came to an end
  pub whole_answer : IsAnswer result → FindsMarks (command_of words) files d.found × (result ≡ (answer words files reading d.found).status) × (took ≡ grown taken (answer words files reading d.found).out)
  whole_answer a = at result a d.is_so d.did.did
    where
      at : (s : Status) → IsAnswer s → FindsMarks (command_of words) files d.found ⊎ WroteNothing s taken took → Did s (answer words files reading d.found) files d.did.files taken took
          → FindsMarks (command_of words) files d.found × (s ≡ (answer words files reading d.found).status) × (took ≡ grown taken (answer words files reading d.found).out)
      at status.Done a f e = (found_so status.Done (λ n. n) f, e.0, e.2)
      at status.Refused a f e = (found_so status.Refused (λ n. n) f, e.0, e.2)
      at status.Usage a f e = (found_so status.Usage (λ n. n) f, e.0, e.2)
      at status.NoLabelling a f e = (found_so status.NoLabelling (λ n. n) f, e.0, e.2)
      at status.ReadFault a f e = absurd a
      at status.WriteFault a f e = absurd a
      at status.NoMemory a f e = absurd a
      at status.SaveFault a f e = absurd a

-- ---- readings

-- the file of a script is one
pub script_reads : (profile : Profile) (w : RunWords) (files : Files) (h : HoldsScript files w.script) → ReadsScript (Some (Run profile w)) files (Ok h.moves)
script_reads profile w files h = λ text told short is_text.
    let e : Some h.text ≡ Some text = sym h.told ∙ told in
    let same : h.text ≡ text = cc in
    subst (λ (text : List ℕ). Reads text (Ok h.moves)) same h.read
