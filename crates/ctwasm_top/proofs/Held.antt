-- The answer over files that hold what the words ask for, and what the files hold where the work is done.
use Rattle.std.proofs.Common.{◌≡◌, ◌≤◌, ◌-◌, ◌≢◌, ℕ, Bool, true, false, List, [], ◌∷◌, length, Option, Some, None, Result, Ok, refl, sym, ap, ◌∙◌, nat_le, cond, subst, arith, codes}
use Rattle.std.specs.FinMap.{get}
use Rattle.ctw_io.specs.Files.{Files}
use Rattle.ctw_ops.specs.declared.types.Label.{Label}
use Rattle.ctw_ops.specs.declared.numeric.Profile.{Profile}
use Rattle.ctw_ops.specs.Tree.{Module, under}
use Rattle.ctw_ops.specs.Valid.{IsValid}
use Rattle.ctw_ops.specs.Erasure.{erase_module}
use Rattle.ctw_form.specs.declared.fault.FormFault.{FormFault}
use Rattle.ctw_form.specs.Read.{module_at}
use Rattle.ctw_form.proofs.FileForms.{module_sound, module_complete}
use Rattle.ctw_form.proofs.Fitted.{module_formed}
use Rattle.ctw_script.specs.declared.moves.Move.{Move}
use Rattle.ctw_script.specs.declared.script.ScriptFault.{ScriptFault}
use Rattle.ctw_write.specs.Canon.{canon}
use Rattle.ctw_write.proofs.CanonicalText.{canonical_spelled, canonical_shortest}
use Rattle.ctw_strip.proofs.Shorter.{canon_shorter}
use Rattle.ctw_strip.proofs.Limited.{erased_spelled}
use Rattle.ctw_text.specs.Print.{printed as text_of_module}
use Rattle.ctw_print.proofs.ReadBack.{file_read_back}
use Rattle.ctw_modcheck.specs.Check.{fault_of}
use Rattle.ctw_modcheck.proofs.Validity.{valid_is_none}
use Rattle.ctw_link.specs.declared.fault.LinkFault.{LinkFault}
use Rattle.ctw_link.specs.Sets.{ModuleSet}
use Rattle.ctw_link.specs.Faults.{set_fault}
use Rattle.ctw_link.proofs.Verdict.{matching_is_no_fault}
use Rattle.ctw_launch.proofs.ErasedFormed.{formed_erased}
use Rattle.ctw_moves.specs.LaunchedStates.{Launch, launch}
use Rattle.ctw_inputs.specs.declared.said.Status.{Status}
use Rattle.ctw_inputs.specs.declared.said.Status.TheVariants.{Done, Refused, Usage}
use Rattle.ctw_inputs.specs.Outcome.{Outcome, ends}
use Rattle.ctw_inputs.specs.Inputs.{NamedFile, at_most, module_limit, modules_limit, script_limit, vault_limit, on_file, load_modules, on_text, on_moves, on_form, on_set, read_parts, linked, module_under, read_valid}
use Rattle.ctw_inputs.specs.Settling.{Reads}
use Rattle.ctwasm_top.proofs.Profiles.{under_ok, spelled_under, valid_under, module_read_valid}
use Rattle.ctw_words.specs.SessionWords.{OnceWords, RunWords, same_in_once, same_in_run}
use Rattle.ctw_parse.proofs.FewBytes.{few_bytes_too}
use Rattle.ctw_write.proofs.KeptModules.{module_limited}
use Rattle.ctwasm_top.specs.Inference.{Found}
use Rattle.ctw_words.specs.Words.{Command, Check, Canon, Assemble, Text, Infer, Strip, Link, Run, Once, Work, command_of}
use Rattle.ctwasm_top.specs.Lines.{linked_line}
use Rattle.ctwasm_top.specs.Launching.{on_launch}
use Rattle.ctwasm_top.specs.Answer.{spelled, printed, stripped, matched, ran, launched, unless_same, once_part, once_moves, on_words, answer, ReadsScript, FindsMarks}
use Rattle.ctwasm_top.specs.ValidCalls.{HoldsValid, HoldsModule, HoldParts, HoldsSet, HoldsSession, HoldsScript, HoldsInputs, IsSpelledAgain, IsPrinted, IsSpelledErased, WritesModule}
use Rattle.ctwasm_top.proofs.There.{there, text_there}
use Rattle.ctwasm_top.proofs.Assembled.{text_done as assembled_done, text_holds as assembled_holds, text_written as assembled_written}
use Rattle.ctw_words.proofs.WorkWords.{IsFew, words_few}
use Rattle.ctwasm_top.proofs.WorkRuns.{work_passed}
use Rattle.ctwasm_top.proofs.Inferred.{infer_done, infer_passed}
use Rattle.ctwasm_top.proofs.Going.{HoldBytes, file_goes, form_goes, fault_goes, load_goes, launch_goes, linked_goes, run_goes, once_goes}
use Rattle.ctwasm_top.proofs.Dispatched.{script_reads}
use Rattle.ctwasm_top.proofs.Settled.{erased_under}

-- no refusal is done
abbrev is_done : Outcome → Type 0
is_done o = o.status ≡ Done

refused_not_done : (line : List ℕ) → is_done (ends Refused line) → ⊥
refused_not_done line e = let d : Refused ≡ Done = e in cc

-- ---- files that are there

both_limits : (n a b : ℕ) → n ≤ a → n ≤ b → n ≤ at_most a b
both_limits n a b h k = at (nat_le a b)
  where
    at : (t : Bool) → n ≤ cond t a b
    at true = h
    at false = k

-- ---- one module

module _ (profile : Profile) (name : List ℕ) (files : Files) (give : Module Label → List ℕ) where
  -- a command over one valid module
  abbrev gives_valid : List ℕ → Outcome
  gives_valid bytes = read_valid profile name bytes (λ m. ends Done (give m))

  -- the work is done exactly for a file that holds a valid module
  valid_done : (on_file name module_limit (get files name) gives_valid).status ≡ Done → HoldsValid files profile name
  valid_done e =
      let m = file_goes is_done refused_not_done name module_limit (get files name) gives_valid e in
      let f = form_goes is_done refused_not_done name (module_under profile m.0) _ m.3 in
      let c = fault_goes is_done refused_not_done name (fault_of f.0) _ f.2 in
      let t = spelled_under profile m.0 f.0 f.1 in
      record { bytes = m.0; told = m.1; short = m.2; tree = t.0; spelled = t.1; valid = subst IsValid t.2 (valid_under profile m.0 f.0 f.1 c.0) }

  valid_given : (h : HoldsValid files profile name) → on_file name module_limit (get files name) gives_valid ≡ ends Done (give (under profile h.tree))
  valid_given h =
      let m : Module Label = under profile h.tree in
      there name module_limit (get files name) h.bytes gives_valid h.told h.short
      ∙ module_read_valid profile name h.bytes m (λ m. ends Done (give m)) (under_ok profile h.bytes h.tree (module_complete h.bytes h.tree h.spelled)) (valid_is_none m h.valid)

  valid_holds : HoldsValid files profile name → (on_file name module_limit (get files name) gives_valid).status ≡ Done
  valid_holds h = ap (λ (a : Outcome). a.status) (valid_given h)

-- what is written of a valid module is the canonical spelling of the erased one
strip_written : (profile : Profile) (name : List ℕ) (files : Files) → (on_file name module_limit (get files name) (stripped profile name)).status ≡ Done
    → IsSpelledErased files name (on_file name module_limit (get files name) (stripped profile name)).out
strip_written profile name files e =
    let h = valid_done profile name files (λ m. canon (erase_module m)) e in
    let out : canon (erase_module h.tree) ≡ (on_file name module_limit (get files name) (stripped profile name)).out = erased_under profile h.tree ∙ sym (ap (λ (a : Outcome). a.out) (valid_given profile name files (λ m. canon (erase_module m)) h)) in
    let formed = formed_erased h.tree (module_formed h.bytes h.tree h.spelled) in
    subst (IsSpelledErased files name) out
    (record {
      bytes = h.bytes;
      told = h.told;
      tree = h.tree;
      spelled = h.spelled;
      shorter = omega (arith, canon_shorter h.tree h.valid.around.types, canonical_shortest h.bytes h.tree h.spelled);
      erased = λ small. erased_spelled h.bytes h.tree h.spelled h.valid.around.types formed small;
    })

-- what is written of a valid module is a text that denotes it
text_written : (profile : Profile) (name : List ℕ) (files : Files) → (on_file name module_limit (get files name) (printed profile name)).status ≡ Done
    → IsPrinted files name (on_file name module_limit (get files name) (printed profile name)).out
text_written profile name files e =
    let h = valid_done profile name files (λ m. text_of_module m) e in
    let out : text_of_module h.tree ≡ (on_file name module_limit (get files name) (printed profile name)).out = sym (ap (λ (a : Outcome). a.out) (valid_given profile name files (λ m. text_of_module m) h)) in
    subst (IsPrinted files name) out
    (record { bytes = h.bytes; told = h.told; tree = h.tree; spelled = h.spelled; denotes = λ octets. few_bytes_too h.tree (module_limited h.bytes h.tree h.spelled).plain_bytes (text_of_module h.tree) (file_read_back profile h.bytes h.tree octets h.spelled h.valid) })

canon_done : (name : List ℕ) (files : Files) → (on_file name module_limit (get files name) (spelled name)).status ≡ Done → HoldsModule files name
canon_done name files e =
    let m = file_goes is_done refused_not_done name module_limit (get files name) (spelled name) e in
    let f = form_goes is_done refused_not_done name (module_at m.0) _ m.3 in
    record { bytes = m.0; told = m.1; short = m.2; tree = f.0; spelled = module_sound m.0 f.0 f.1 }

canon_given : (name : List ℕ) (files : Files) (h : HoldsModule files name) → on_file name module_limit (get files name) (spelled name) ≡ ends Done (canon h.tree)
canon_given name files h =
    there name module_limit (get files name) h.bytes (spelled name) h.told h.short
    ∙ ap (λ (r : Result (Module Label) FormFault). on_form name r (λ m. ends Done (canon m))) (module_complete h.bytes h.tree h.spelled)

-- what is written of a module spells it again
canon_written : (name : List ℕ) (files : Files) → (on_file name module_limit (get files name) (spelled name)).status ≡ Done
    → IsSpelledAgain files name (on_file name module_limit (get files name) (spelled name)).out
canon_written name files e =
    let h = canon_done name files e in
    let out : canon h.tree ≡ (on_file name module_limit (get files name) (spelled name)).out = sym (ap (λ (a : Outcome). a.out) (canon_given name files h)) in
    subst (IsSpelledAgain files name) out
    (record { bytes = h.bytes; told = h.told; tree = h.tree; spelled = h.spelled; again = canonical_spelled h.bytes h.tree h.spelled })

-- ---- sets

-- the answer over files that hold valid modules
record Gives (profile : Profile) (files : Files) (left : ℕ) (parts : List NamedFile) (set : ModuleSet) : Type 0 where
  contents : List (List ℕ)
  loaded : (go : List (List ℕ) → Outcome) → load_modules files left parts go ≡ go contents
  read : (go : ModuleSet → Outcome) → read_parts profile parts contents go ≡ go set

gives : (profile : Profile) (files : Files) (left : ℕ) (parts : List NamedFile) (set : ModuleSet) → HoldParts files profile left parts set → Gives profile files left parts set
gives profile files left [] [] h = record { contents = []; loaded = λ go. refl; read = λ go. refl }
gives profile files left (part ∷ parts) (m ∷ set) h =
    let bytes : List ℕ = h.1 in
    let others = gives profile files (left - length bytes) parts set h.9 in
    record {
      contents = bytes ∷ others.contents;
      loaded = λ go.
          there part.file (at_most module_limit left) (get files part.file) bytes (λ bytes. load_modules files (left - length bytes) parts (λ others. go (bytes ∷ others))) h.2 (both_limits (length bytes) module_limit left h.3 h.4)
          ∙ others.loaded (λ others. go (bytes ∷ others));
      read = λ go.
          module_read_valid profile part.file bytes m.tree (λ tree. read_parts profile parts others.contents (λ set. go (record { name = part.name; tree = tree } ∷ set))) (under_ok profile bytes h.5 (module_complete bytes h.5 h.6) ∙ ap (λ (x : Module Label). Ok x) (sym h.7)) (valid_is_none m.tree h.8)
          ∙ ap (λ (name : List ℕ). read_parts profile parts others.contents (λ set. go (record { name = name; tree = m.tree } ∷ set))) (sym h.0)
          ∙ others.read (λ set. go (m ∷ set));
    }
gives profile files left [] (m ∷ set) h = absurd h
gives profile files left (part ∷ parts) [] h = absurd h

-- the parts of a set that matches are linked
linked_gives : (profile : Profile) (parts : List NamedFile) (contents : List (List ℕ)) (set : ModuleSet) (go : ModuleSet → Outcome) → ((go : ModuleSet → Outcome) → read_parts profile parts contents go ≡ go set) → set_fault set ≡ None
    → linked profile parts contents go ≡ go set
linked_gives profile parts contents set go read none = read _ ∙ ap (λ (o : Option LinkFault). on_set set o (go set)) none

link_done : (profile : Profile) (files : Files) (parts : List NamedFile) → (load_modules files modules_limit parts (matched profile parts)).status ≡ Done → HoldsSet files profile parts
link_done profile files parts e =
    let l = load_goes is_done refused_not_done files modules_limit parts (matched profile parts) e in
    let r = linked_goes is_done refused_not_done profile files modules_limit parts l.0 _ l.1 l.2 in
    record { set = r.0; held = r.1; matching = r.2 }

link_holds : (profile : Profile) (files : Files) (parts : List NamedFile) → HoldsSet files profile parts → (load_modules files modules_limit parts (matched profile parts)).status ≡ Done
link_holds profile files parts h =
    let g = gives profile files modules_limit parts h.set h.held in
    ap (λ (a : Outcome). a.status)
    (g.loaded (matched profile parts) ∙ linked_gives profile parts g.contents h.set (λ set. ends Done (linked_line (length set))) g.read (matching_is_no_fault h.set h.matching))

-- ---- sessions

-- files that hold a set and a vault, over their contents
launch_holds : (profile : Profile) (files : Files) (parts : List NamedFile) (vault : List ℕ) (h : HoldsSession files profile parts vault) (sealed : List ℕ) (moves : List Move)
    → (go : List (List ℕ) → List ℕ → Outcome) → ((contents : List (List ℕ)) (bytes : List ℕ) → go contents bytes ≡ launched profile parts contents bytes (ran sealed moves))
    → (g : Gives profile files modules_limit parts h.set) → (go g.contents h.bytes).status ≡ Done
launch_holds profile files parts vault h sealed moves go same g =
    ap (λ (a : Outcome). a.status)
    (same g.contents h.bytes
    ∙ linked_gives profile parts g.contents h.set (λ set. on_launch (launch set h.bytes) (ran sealed moves set)) g.read (matching_is_no_fault h.set h.matching)
    ∙ ap (λ (x : Launch). on_launch x (ran sealed moves h.set)) h.launched)

once_done : (profile : Profile) (files : Files) (w : OnceWords) → same_in_once w ≡ None → HoldsSession files profile (once_part w ∷ []) w.vault
    → (unless_same (same_in_once w)
    (load_modules files modules_limit (once_part w ∷ [])
    (λ contents. on_file w.vault vault_limit (get files w.vault) (λ vault. launched profile (once_part w ∷ []) contents vault (ran w.sealed (once_moves w)))))).status ≡ Done
once_done profile files w same h =
    let parts = once_part w ∷ [] in
    let g = gives profile files modules_limit parts h.set h.held in
    let last = λ (contents : List (List ℕ)) (vault : List ℕ). launched profile parts contents vault (ran w.sealed (once_moves w)) in
    ap (λ (a : Outcome). a.status)
    (ap (λ (o : Option (List ℕ)). unless_same o (load_modules files modules_limit parts (λ contents. on_file w.vault vault_limit (get files w.vault) (last contents)))) same
    ∙ g.loaded (λ contents. on_file w.vault vault_limit (get files w.vault) (last contents))
    ∙ there w.vault vault_limit (get files w.vault) h.bytes (last g.contents) h.told h.short)
    ∙ launch_holds profile files parts w.vault h w.sealed (once_moves w) last (λ contents bytes. refl) g

run_done : (profile : Profile) (files : Files) (w : RunWords) (script : HoldsScript files w.script) → same_in_run w ≡ None → HoldsSession files profile w.parts w.vault
    → (unless_same (same_in_run w)
    (on_file w.script script_limit (get files w.script)
    (λ text. on_file w.vault vault_limit (get files w.vault)
    (λ vault. load_modules files modules_limit w.parts
    (λ contents. on_text w.script text
    (λ t. on_moves (Ok script.moves) (λ moves. launched profile w.parts contents vault (ran w.sealed moves)))))))).status ≡ Done
run_done profile files w script same h =
    let g = gives profile files modules_limit w.parts h.set h.held in
    let opened = λ (text : List ℕ) (contents : List (List ℕ)) (vault : List ℕ). on_text w.script text (λ t. launched profile w.parts contents vault (ran w.sealed script.moves)) in
    let files_of = λ (text vault : List ℕ). load_modules files modules_limit w.parts (λ contents. opened text contents vault) in
    ap (λ (a : Outcome). a.status)
    (ap (λ (o : Option (List ℕ)). unless_same o (on_file w.script script_limit (get files w.script) (λ text. on_file w.vault vault_limit (get files w.vault) (files_of text)))) same
    ∙ there w.script script_limit (get files w.script) script.text (λ text. on_file w.vault vault_limit (get files w.vault) (files_of text)) script.told script.short
    ∙ there w.vault vault_limit (get files w.vault) h.bytes (files_of script.text) h.told h.short
    ∙ g.loaded (λ contents. opened script.text contents h.bytes)
    ∙ text_there w.script script.text (λ t. launched profile w.parts g.contents h.bytes (ran w.sealed script.moves)) script.is_text)
    ∙ launch_holds profile files w.parts w.vault h w.sealed script.moves (λ contents bytes. launched profile w.parts contents bytes (ran w.sealed script.moves)) (λ contents bytes. refl) g

-- a set and a vault with which the moves were made
session_done : (profile : Profile) (files : Files) (parts : List NamedFile) (contents : List (List ℕ)) (name vault sealed : List ℕ) (moves : List Move) → HoldBytes files modules_limit parts contents → get files name ≡ Some vault
    → length vault ≤ vault_limit → (launched profile parts contents vault (ran sealed moves)).status ≡ Done → HoldsSession files profile parts name
session_done profile files parts contents name vault sealed moves h told short e =
    let r = linked_goes is_done refused_not_done profile files modules_limit parts contents _ h e in
    let l = launch_goes is_done refused_not_done (launch r.0 vault) _ r.3 in
    record { set = r.0; held = r.1; matching = r.2; bytes = vault; told = told; short = short; state = l.0; launched = l.1 }

-- ---- by the words

module _ (files : Files) where
  not_both : (a : Status) → a ≡ Done → a ≢ Refused
  not_both a d r = let e : Refused ≡ Done = sym r ∙ d in cc

  command_held : (reading : Result (List Move) ScriptFault) (found : Found) (command : Option Command) → ReadsScript command files reading → FindsMarks command files found → (on_words files reading found command).status ≡ Done → HoldsInputs files command
  command_held reading found None reads finds e = let d : Usage ≡ Done = e in absurd cc
  command_held reading found (Some (Work p seed size)) reads finds e = tt
  command_held reading found (Some (Check p name)) reads finds e = valid_done p name files (λ m. codes "ok\n") e
  command_held reading found (Some (Canon name)) reads finds e = canon_done name files e
  command_held reading found (Some (Assemble name)) reads finds e = assembled_done files name e
  command_held reading found (Some (Text p name)) reads finds e = valid_done p name files (λ m. text_of_module m) e
  command_held reading found (Some (Infer p name marks)) reads finds e = infer_done files found p name marks finds e
  command_held reading found (Some (Strip p name)) reads finds e = valid_done p name files (λ m. canon (erase_module m)) e
  command_held reading found (Some (Link p parts)) reads finds e = link_done p files parts e
  command_held reading found (Some (Run p w)) reads finds e =
      let r = run_goes is_done refused_not_done files p reading w e in (
        r.alone,
        record {
          text = r.text;
          told = r.script;
          short = r.text_short;
          is_text = r.is_text;
          moves = r.moves;
          read = subst (λ (x : Result (List Move) ScriptFault). Reads r.text x) r.read (reads r.text r.script r.text_short r.is_text);
        },
        session_done p files w.parts r.contents w.vault r.bytes w.sealed r.moves r.held r.vault r.vault_short r.launches,
      )
  command_held reading found (Some (Once p w)) reads finds e =
      let r = once_goes is_done refused_not_done files p w e in
      (r.alone, session_done p files (once_part w ∷ []) r.contents w.vault r.bytes w.sealed (once_moves w) r.held r.vault r.vault_short r.launches)

  -- what the files hold where the work is done
  pub inputs_held : (words : List (List ℕ)) (reading : Result (List Move) ScriptFault) (found : Found) → ReadsScript (command_of words) files reading → FindsMarks (command_of words) files found → (answer words files reading found).status ≡ Done → HoldsInputs files (command_of words)
  unfolding answer
  inputs_held words reading found reads finds e = command_held reading found (command_of words) reads finds e

  command_written : (reading : Result (List Move) ScriptFault) (found : Found) (command : Option Command) → (on_words files reading found command).status ≡ Done → WritesModule files command (on_words files reading found command).out
  command_written reading found None e = tt
  command_written reading found (Some (Check p name)) e = tt
  command_written reading found (Some (Canon name)) e = canon_written name files e
  command_written reading found (Some (Assemble name)) e = assembled_written files name e
  command_written reading found (Some (Text p name)) e = text_written p name files e
  command_written reading found (Some (Infer p name marks)) e = tt
  command_written reading found (Some (Strip p name)) e = strip_written p name files e
  command_written reading found (Some (Link p parts)) e = tt
  command_written reading found (Some (Run p w)) e = tt
  command_written reading found (Some (Once p w)) e = tt
  command_written reading found (Some (Work p seed size)) e = tt

  -- what the bytes spell that were written
  pub module_written : (words : List (List ℕ)) (reading : Result (List Move) ScriptFault) (found : Found) → (answer words files reading found).status ≡ Done → WritesModule files (command_of words) (answer words files reading found).out
  unfolding answer
  module_written words reading found e = command_written reading found (command_of words) e

  -- the reading of the script of files that hold one
  abbrev pub held_reading : (command : Option Command) → HoldsInputs files command → Result (List Move) ScriptFault
  held_reading (Some (Run p w)) h = Ok h.1.moves
  held_reading command h = Ok []

  pub held_reads : (command : Option Command) (h : HoldsInputs files command) → ReadsScript command files (held_reading command h)
  held_reads None h = tt
  held_reads (Some (Check p name)) h = tt
  held_reads (Some (Canon name)) h = tt
  held_reads (Some (Assemble name)) h = tt
  held_reads (Some (Text p name)) h = tt
  held_reads (Some (Infer p name marks)) h = tt
  held_reads (Some (Strip p name)) h = tt
  held_reads (Some (Link p parts)) h = tt
  held_reads (Some (Run p w)) h = script_reads p w files h.1
  held_reads (Some (Once p w)) h = tt
  held_reads (Some (Work p seed size)) h = tt

  command_passed : (found : Found) (command : Option Command) (h : HoldsInputs files command) → IsFew command → FindsMarks command files found → (on_words files (held_reading command h) found command).status ≢ Refused
  unfolding vault_limit
  command_passed found None h small finds = absurd h
  command_passed found (Some (Work p seed size)) h small finds = work_passed p seed size small.1 found finds
  command_passed found (Some (Check p name)) h small finds = not_both _ (valid_holds p name files (λ m. codes "ok\n") h)
  command_passed found (Some (Canon name)) h small finds = not_both _ (ap (λ (a : Outcome). a.status) (canon_given name files h))
  command_passed found (Some (Assemble name)) h small finds = not_both _ (assembled_holds files name h)
  command_passed found (Some (Text p name)) h small finds = not_both _ (valid_holds p name files (λ m. text_of_module m) h)
  command_passed found (Some (Infer p name marks)) h small finds = infer_passed files found p name marks h finds
  command_passed found (Some (Strip p name)) h small finds = not_both _ (valid_holds p name files (λ m. canon (erase_module m)) h)
  command_passed found (Some (Link p parts)) h small finds = not_both _ (link_holds p files parts h)
  command_passed found (Some (Run p w)) h small finds = not_both _ (run_done p files w h.1 h.0 h.2)
  command_passed found (Some (Once p w)) h small finds = not_both _ (once_done p files w h.0 h.1)

  -- no files that hold what the command asks for are refused
  pub inputs_passed : (words : List (List ℕ)) (found : Found) (h : HoldsInputs files (command_of words)) → FindsMarks (command_of words) files found → (answer words files (held_reading (command_of words) h) found).status ≢ Refused
  unfolding answer
  inputs_passed words found h finds = command_passed found (command_of words) h (words_few words) finds
