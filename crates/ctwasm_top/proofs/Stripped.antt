-- What is executed does the same when it is stripped.
use Rattle.std.proofs.Common.{◌≡◌, ◌≤◌, ◌-◌, ℕ, List, [], ◌∷◌, length, Option, Some, None, Result, Ok, Err, All, sym, ap, ◌∙◌, subst, codes}
use Rattle.std.proofs.lemmas.List.Elements.{All-nil, All-cons}
use Rattle.std.specs.FinMap.{get}
use Rattle.ctw_io.specs.Files.{Files}
use Rattle.ctw_ops.specs.declared.numeric.Profile.{Profile}
use Rattle.ctw_script.specs.declared.moves.Move.{Move}
use Rattle.ctw_script.specs.declared.script.ScriptFault.{ScriptFault}
use Rattle.ctw_semantics.specs.Sound.{AllUntrusted}
use Rattle.ctw_ops.specs.Valid.{IsValid}
use Rattle.ctw_link.specs.Sets.{NamedModule, ModuleSet, AllWithinLimits}
use Rattle.ctw_link.specs.Matching.{AreMatching}
use Rattle.ctw_link.specs.SetInstances.{set_instances, AllValid}
use Rattle.ctw_moves.specs.States.{State}
use Rattle.ctw_moves.specs.LaunchedStates.{Ready, launch}
use Rattle.ctw_inputs.specs.Outcome.{Execution, Outcome, ends}
use Rattle.ctw_inputs.specs.declared.said.Status.{Status}
use Rattle.ctw_inputs.specs.declared.said.Status.TheVariants.{Done, Refused}
use Rattle.ctw_inputs.specs.Inputs.{NamedFile, module_limit, modules_limit, marks_limit, on_file, on_text, read_valid}
use Rattle.ctwasm_top.specs.Inference.{Found, IsFound, placed_by, inferred}
use Rattle.ctwasm_top.proofs.Inferred.{inferred_ends}
use Rattle.ctw_labels.specs.Links.{at_tag}
use Rattle.ctw_labels.specs.Fits.{label_at}
use Rattle.ctw_marks.specs.declared.fault.MarkFault.{MarkFault}
use Rattle.ctw_marks.specs.Readings.{MarkList}
use Rattle.ctw_infer.specs.declared.fault.InferFault.{InferFault}
use Rattle.ctw_gen.specs.Workload.{marks, vault}
use Rattle.ctw_workloads.specs.Placed.{workload_under}
use Rattle.ctw_workloads.proofs.Launch.{set_matches}
use Rattle.ctw_text.specs.Denotes.{Fault}
use Rattle.ctw_parse.specs.Assembled.{assembled}
use Rattle.ctwasm_top.specs.Texts.{text_limit, text_line, on_assembled, text_answer}
use Rattle.ctwasm_top.specs.Works.{alone, work_answer}
use Rattle.ctw_words.proofs.WorkWords.{IsFew, words_few}
use Rattle.ctwasm_top.proofs.WorkRuns.{executed, set_valid, set_within, vault_octets}
use Rattle.ctw_words.specs.Words.{Command, Check, Canon, Assemble, Text, Infer, Strip, Link, Run, Once, Work, command_of}
use Rattle.ctw_ops.specs.Erasure.{erase_module}
use Rattle.ctw_form.specs.Read.{module_at}
use Rattle.ctw_write.specs.Canon.{canon}
use Rattle.ctwasm_top.specs.Lines.{linked_line}
use Rattle.ctw_text.specs.Print.{printed as text_of_module}
use Rattle.ctwasm_top.specs.Answer.{FindsMarks, checked, spelled, printed, stripped, matched, ran, launched, once_part, once_moves, on_words, answer}
use Rattle.ctwasm_top.specs.ValidCalls.{HoldParts}
use Rattle.ctwasm_top.specs.Headline.{AreOctets, RunsStripped}
use Rattle.ctwasm_top.proofs.Going.{HoldBytes, file_goes, text_goes, form_goes, valid_goes, launch_goes, load_goes, linked_goes, run_goes, once_goes}
use Rattle.ctw_ops.specs.declared.types.Label.{Label}
use Rattle.ctw_ops.specs.Tree.{Module, under}
use Rattle.ctw_ops.specs.WithinLimits.{IsWithinLimits}
use Rattle.ctw_form.proofs.WithinLimits.{within_limits}
use Rattle.ctw_launch.proofs.ErasedSmall.{all_valid_erased}
use Rattle.ctw_launch.proofs.ErasedMatch.{matching_erased}
use Rattle.ctw_moves.specs.SoundStates.{AreBytes, HasBytes}
use Rattle.ctw_moves.proofs.Launches.{launch_sound, session_erased}
use Rattle.ctw_moves.proofs.QuietMoves.{plays_quiet}
use Rattle.ctw_moves.specs.Runs.{plays}

-- what an execution comes from
record Comes (e : Execution) : Type 0 where
  matching : AreMatching e.set
  valid : AllValid e.set
  limits : AllWithinLimits e.set
  vault : List ℕ
  bytes : AreBytes vault
  launched : launch e.set vault ≡ Ready e.state

some_same : (d e : Execution) → Some d ≡ Some e → d ≡ e
some_same d e q = cc

limits_under : (profile : Profile) (m : Module Label) → IsWithinLimits m → IsWithinLimits (under profile m)
limits_under profile m w = record { params = w.params; locals = w.locals; bytes = w.bytes }

parts_valid : (files : Files) (profile : Profile) (left : ℕ) (parts : List NamedFile) (set : ModuleSet) → HoldParts files profile left parts set → AllValid set
parts_valid files profile left [] [] h = All-nil (λ (p : NamedModule). IsValid p.tree)
parts_valid files profile left (part ∷ parts) (p ∷ set) h = All-cons (λ (p : NamedModule). IsValid p.tree) p set h.8 (parts_valid files profile (left - length h.1) parts set h.9)
parts_valid files profile left [] (p ∷ set) h = absurd h
parts_valid files profile left (part ∷ parts) [] h = absurd h

parts_within : (files : Files) (profile : Profile) → AreOctets files → (left : ℕ) (parts : List NamedFile) (set : ModuleSet) → HoldParts files profile left parts set → AllWithinLimits set
parts_within files profile o left [] [] h = All-nil (λ (p : NamedModule). IsWithinLimits p.tree)
parts_within files profile o left (part ∷ parts) (p ∷ set) h =
    All-cons (λ (p : NamedModule). IsWithinLimits p.tree) p set (subst IsWithinLimits (sym h.7) (limits_under profile h.5 (within_limits h.1 h.5 (o part.file h.1 h.2) h.6)))
    (parts_within files profile o (left - length h.1) parts set h.9)
parts_within files profile o left [] (p ∷ set) h = absurd h
parts_within files profile o left (part ∷ parts) [] h = absurd h

module _ (files : Files) (octets : AreOctets files) (e : Execution) where
  abbrev Executes : Outcome → Type 0
  Executes o = o.execution ≡ Some e

  none_refused : (line : List ℕ) → Executes (ends Refused line) → ⊥
  none_refused line q = let d : None ≡ Some e = q in cc

  none_done : (text : List ℕ) → Executes (ends Done text) → ⊥
  none_done text q = let d : None ≡ Some e = q in cc

  none_ended : (status : Status) (text : List ℕ) → Executes (ends status text) → ⊥
  none_ended status text q = let d : None ≡ Some e = q in cc

  none_assembled : (r : Result (Module Label) Fault) → Executes (on_assembled r) → ⊥
  none_assembled (Ok m) q = none_ended Done (canon m) q
  none_assembled (Err fault) q = none_ended Refused (text_line fault) q

  parts_come : (profile : Profile) (parts : List NamedFile) (contents : List (List ℕ)) (name vault sealed : List ℕ) (moves : List Move) → HoldBytes files modules_limit parts contents → get files name ≡ Some vault
      → Executes (launched profile parts contents vault (ran sealed moves)) → Comes e
  parts_come profile parts contents name vault sealed moves h v q =
      let r = linked_goes Executes none_refused profile files modules_limit parts contents _ h q in
      let l = launch_goes Executes none_refused (launch r.0 vault) _ r.3 in
      let same : record { set = r.0; state = l.0; moves = moves } ≡ e = some_same _ e l.2 in
      let set : r.0 ≡ e.set = ap (λ (x : Execution). x.set) same in
      let state : l.0 ≡ e.state = ap (λ (x : Execution). x.state) same in
      record {
        matching = subst AreMatching set r.2;
        valid = subst AllValid set (parts_valid files profile modules_limit parts r.0 r.1);
        limits = subst AllWithinLimits set (parts_within files profile octets modules_limit parts r.0 r.1);
        vault = vault;
        bytes = octets name vault v;
        launched = ap (λ (set : ModuleSet). launch set vault) (sym set) ∙ l.1 ∙ ap (λ (s : State). Ready s) state;
      }

  work_comes : (p : Profile) (seed size : ℕ) → size ≤ 20000 → (found : Found) → IsFound (workload_under p seed size) marks found → Executes (work_answer found p seed size) → Comes e
  work_comes p seed size few found is_so q =
      let x = executed p seed size few found e q in
      let t = placed_by (workload_under p seed size) x.k x.labels in
      let own : IsFound (workload_under p seed size) marks (record { marks = Ok x.k; labels = Ok x.labels }) = subst (IsFound (workload_under p seed size) marks) (found_is found x.k x.labels x.read x.labelled) is_so in
      let set : alone t ≡ e.set = ap (λ (x : Execution). x.set) x.is in
      let state : x.state ≡ e.state = ap (λ (x : Execution). x.state) x.is in
      record {
        matching = subst AreMatching set (set_matches p seed size x.k.points (at_tag (label_at x.labels)));
        valid = subst AllValid set (set_valid p seed size few x.k x.labels own);
        limits = subst AllWithinLimits set (set_within p seed size few x.k x.labels own);
        vault = vault seed size;
        bytes = vault_octets p seed size few;
        launched = ap (λ (set : ModuleSet). launch set (vault seed size)) (sym set) ∙ x.launched ∙ ap (λ (s : State). Ready s) state;
      }
    where
      found_is : (found : Found) (k : MarkList) (labels : List Label) → found.marks ≡ Ok k → found.labels ≡ Ok labels → found ≡ record { marks = Ok k; labels = Ok labels }
      found_is found k labels a b = ap (λ (x : Result MarkList MarkFault). record { marks = x; labels = found.labels }) a ∙ ap (λ (x : Result (List Label) InferFault). record { marks = Ok k; labels = x }) b

  command_comes : (reading : Result (List Move) ScriptFault) (found : Found) (command : Option Command) → IsFew command → FindsMarks command files found → Executes (on_words files reading found command) → Comes e
  command_comes reading found None few finds q = cc
  command_comes reading found (Some (Work p seed size)) few finds q = work_comes p seed size few.1 found finds q
  command_comes reading found (Some (Check p file)) few finds q =
      let f = file_goes Executes none_refused file module_limit (get files file) (checked p file) q in
      let v = valid_goes Executes none_refused p file f.0 (λ (m : Module Label). ends Done (codes "ok\n")) f.3 in
      absurd (none_done (codes "ok\n") v.1)
  command_comes reading found (Some (Canon file)) few finds q =
      let f = file_goes Executes none_refused file module_limit (get files file) (spelled file) q in
      let r = form_goes Executes none_refused file (module_at f.0) (λ (m : Module Label). ends Done (canon m)) f.3 in
      absurd (none_done (canon r.0) r.2)
  command_comes reading found (Some (Assemble file)) few finds q =
      let f = file_goes Executes none_refused file text_limit (get files file) (text_answer file) q in
      let t = text_goes Executes none_refused file f.0 (λ (text : List ℕ). on_assembled (assembled text)) f.3 in
      absurd (none_assembled (assembled f.0) t.1)
  command_comes reading found (Some (Text p file)) few finds q =
      let f = file_goes Executes none_refused file module_limit (get files file) (printed p file) q in
      let v = valid_goes Executes none_refused p file f.0 (λ (m : Module Label). ends Done (text_of_module m)) f.3 in
      absurd (none_done (text_of_module v.0) v.1)
  command_comes reading found (Some (Infer p file marks)) few finds q =
      let f = file_goes Executes none_refused file module_limit (get files file) (λ (bytes : List ℕ). on_file marks marks_limit (get files marks) (λ (text : List ℕ). on_text marks text (λ (text : List ℕ). read_valid p file bytes (inferred found)))) q in
      let k = file_goes Executes none_refused marks marks_limit (get files marks) (λ (text : List ℕ). on_text marks text (λ (text : List ℕ). read_valid p file f.0 (inferred found))) f.3 in
      let t = text_goes Executes none_refused marks k.0 (λ (text : List ℕ). read_valid p file f.0 (inferred found)) k.3 in
      let v = valid_goes Executes none_refused p file f.0 (inferred found) t.1 in
      absurd (inferred_ends Executes none_ended found v.0 v.1)
  command_comes reading found (Some (Strip p file)) few finds q =
      let f = file_goes Executes none_refused file module_limit (get files file) (stripped p file) q in
      let v = valid_goes Executes none_refused p file f.0 (λ (m : Module Label). ends Done (canon (erase_module m))) f.3 in
      absurd (none_done (canon (erase_module v.0)) v.1)
  command_comes reading found (Some (Link p parts)) few finds q =
      let c = load_goes Executes none_refused files modules_limit parts (matched p parts) q in
      let r = linked_goes Executes none_refused p files modules_limit parts c.0 (λ (set : ModuleSet). ends Done (linked_line (length set))) c.1 c.2 in
      absurd (none_done (linked_line (length r.0)) r.3)
  command_comes reading found (Some (Run p w)) few finds q =
      let r = run_goes Executes none_refused files p reading w q in
      parts_come p w.parts r.contents w.vault r.bytes w.sealed r.moves r.held r.vault r.launches
  command_comes reading found (Some (Once p w)) few finds q =
      let r = once_goes Executes none_refused files p w q in
      parts_come p (once_part w ∷ []) r.contents w.vault r.bytes w.sealed (once_moves w) r.held r.vault r.launches

  answer_comes : (words : List (List ℕ)) (reading : Result (List Move) ScriptFault) (found : Found) → FindsMarks (command_of words) files found → (answer words files reading found).execution ≡ Some e → Comes e
  unfolding answer
  answer_comes words reading found finds q = command_comes reading found (command_of words) (words_few words) finds q

  -- the erased execution is the execution, erased
  pub runs_stripped : (words : List (List ℕ)) (reading : Result (List Move) ScriptFault) (found : Found) → FindsMarks (command_of words) files found → All HasBytes e.moves → (answer words files reading found).execution ≡ Some e → RunsStripped e
  runs_stripped words reading found finds b q =
      let c = answer_comes words reading found finds q in
      let r = session_erased e.set c.matching c.valid c.limits c.vault e.state e.moves c.bytes b c.launched in
      record { valid = all_valid_erased e.set c.valid; matching = matching_erased e.set c.matching c.valid; launched = r.0; plays = r.1 }

  -- without trusted functions nothing is released
  pub none_released : (words : List (List ℕ)) (reading : Result (List Move) ScriptFault) (found : Found) → FindsMarks (command_of words) files found → All HasBytes e.moves → AllUntrusted (set_instances e.set) → (answer words files reading found).execution ≡ Some e
      → (plays e.set e.state e.moves).releases ≡ []
  none_released words reading found finds b un q =
      let c = answer_comes words reading found finds q in
      plays_quiet e.set un e.moves e.state (launch_sound e.set c.matching c.valid c.limits c.vault c.bytes e.state c.launched) b
