-- How the commands that run sets end.
use Rattle.std.proofs.Common.{IsOk, ◌-◌, ◌≡◌, ◌⊎◌, inl, inr, ℕ, Bool, true, false, List, [], ◌∷◌, length, Option, Some, None, Result, Ok, Err, ◌≤◌, map, refl, sym, ap, ◌∙◌, subst, take, nat_le, cond, codes}
use Rattle.std.proofs.lemmas.Bool.{leb-true}
use Rattle.std.proofs.lemmas.List.{length-map}
use Rattle.std.specs.Str.{is_utf8}
use Rattle.std.specs.Str.Lossy.{utf8_valid_len}
use Rattle.std.specs.FinMap.{get, insert}
use Rattle.ctw_io.specs.Files.{Files, IsHalfSaved}
use Rattle.ctw_io.specs.Taken.{grown, TookPrefix}
use Rattle.ctw_ops.specs.declared.numeric.Profile.{Profile}
use Rattle.ctw_script.specs.declared.moves.Move.{Move}
use Rattle.ctw_script.specs.declared.script.ScriptFault.{ScriptFault}
use Rattle.ctw_link.specs.Sets.{ModuleSet}
use Rattle.ctw_moves.specs.States.{State}
use Rattle.ctw_moves.specs.Runs.{Run, plays}
use Rattle.ctw_session.specs.declared.live.Live.{Live}
use Rattle.ctw_session.specs.LiveStates.{StandsFor}
use Rattle.ctw_inputs.specs.declared.said.Status.{Status}
use Rattle.ctw_inputs.specs.declared.said.Status.TheVariants.{Done, Refused, WriteFault, NoMemory, SaveFault}
use Rattle.ctw_inputs.specs.declared.said.Stop.{Stop}
use Rattle.ctw_inputs.specs.Outcome.{Outcome, ends}
use Rattle.ctw_inputs.specs.declared.parts.PartFile.{PartFile}
use Rattle.ctw_inputs.specs.declared.parts.LoadedPart.{LoadedPart}
use Rattle.ctw_inputs.specs.Parts.{part_named, names, contents, bytes_in}
use Rattle.ctw_inputs.specs.Inputs.{NamedFile, script_limit, vault_limit, modules_limit, refuses, module_limit, at_most, on_file, load, load_modules, on_text, on_moves}
use Rattle.ctw_inputs.specs.Settling.{IsStop, Reads}
use Rattle.ctw_lines.specs.Lines.{not_text_line}
use Rattle.ctwasm_top.specs.Headline.{with_saves, AreHalfSaved, Did, DidTold}
use Rattle.ctwasm_top.specs.Lines.{told_lines}
use Rattle.ctw_words.specs.SessionWords.{OnceWords, RunWords, same_in_once, same_in_run}
use Rattle.ctwasm_top.specs.Answer.{unless_same, ran, launched, once_part, once_moves, once_answer, run_answer}
use Rattle.ctwasm_top.specs.Sessions.{Told, Writes, IsSaved, ArePartsOf, run_files, run_opened, once_files}
use Rattle.ctwasm_top.proofs.Settled.{part_of, named_parts}

-- ---- saving

module _ (files : Files) (after : Option Files) (o : Outcome) (name bytes : List ℕ) (taken took : Option (List ℕ)) (s : IsSaved o name bytes) where
  pub saved_whole : after ≡ Some (insert files name bytes) → took ≡ grown taken o.out → DidTold Done o files after taken took
  saved_whole e t = record { files = insert files name bytes; told = e; did = (sym s.done, ap (with_saves files) (sym s.saves), t) }

  pub saved_half : IsHalfSaved files name bytes after → took ≡ grown taken o.out → DidTold SaveFault o files after taken took
  saved_half (inl e) t = record { files = files; told = e; did = (subst (λ (l : List (List ℕ × List ℕ)). AreHalfSaved files l files) (sym s.saves) (inl (inl refl)), t, s.done) }
  saved_half (inr (n, e)) t =
      record { files = insert files name (take n bytes); told = e; did = (subst (λ (l : List (List ℕ × List ℕ)). AreHalfSaved files l (insert files name (take n bytes))) (sym s.saves) (inl (inr (n, refl))), t, s.done) }

-- a prefix was written, and nothing saved
pub ended_early : (status : Status) (files : Files) (after : Option Files) (o : Outcome) (taken took : Option (List ℕ)) → (status ≡ WriteFault) ⊎ (status ≡ NoMemory) → after ≡ Some files → TookPrefix taken took o.out
    → DidTold status o files after taken took
ended_early status files after o taken took (inl e) h t = subst (λ (s : Status). DidTold s o files after taken took) (sym e) (record { files = files; told = h; did = (refl, t) })
ended_early status files after o taken took (inr e) h t = subst (λ (s : Status). DidTold s o files after taken took) (sym e) (record { files = files; told = h; did = (refl, t) })

-- ---- files

-- what a file that a step went on with holds
pub found : (name : List ℕ) (limit : ℕ) (o : Option (List ℕ)) (bytes : List ℕ) → ((go : List ℕ → Outcome) → on_file name limit o go ≡ go bytes) → (o ≡ Some bytes) × (nat_le (length bytes) limit ≡ true)
found name limit None bytes h = let e : Refused ≡ Done = ap (λ (a : Outcome). a.status) (h (λ x. ends Done x)) in cc
found name limit (Some there) bytes h = at (nat_le (length there) limit) refl (h (λ x. ends Done x))
  where
    at : (b : Bool) → nat_le (length there) limit ≡ b → cond b (ends Done there) (refuses (codes "TooLarge") name) ≡ ends Done bytes → (Some there ≡ Some bytes) × (nat_le (length bytes) limit ≡ true)
    at true q e = let same : there ≡ bytes = ap (λ (a : Outcome). a.out) e in (ap (λ (x : List ℕ). Some x) same, ap (λ (x : List ℕ). nat_le (length x) limit) (sym same) ∙ q)
    at false q e = let s : Refused ≡ Done = ap (λ (a : Outcome). a.status) e in cc

-- ---- answers by what was loaded

-- the answer of `run` behind its files
abbrev pub behind_run : Profile → Result (List Move) ScriptFault → RunWords → List ℕ × (List ℕ × List (List ℕ)) → Outcome
behind_run profile reading w files = run_opened profile w.script files.0 reading w.parts files.1.1 files.1.0 (λ moves. ran w.sealed moves)

pub run_by_files : (files : Files) (profile : Profile) (reading : Result (List Move) ScriptFault) (w : RunWords) → run_answer files profile reading w ≡ run_files files w (behind_run profile reading w)
run_by_files files profile reading w = refl

abbrev pub behind_once : Profile → OnceWords → List (List ℕ) × List ℕ → Outcome
behind_once profile w files = launched profile (once_part w ∷ []) files.0 files.1 (ran w.sealed (once_moves w))

pub once_by_files : (files : Files) (profile : Profile) (w : OnceWords) → once_answer files profile w ≡ once_files files w (behind_once profile w)
once_by_files files profile w = refl

-- a command that stops over told files
pub stopped_told : (status : Status) (o : Outcome) (files : Files) (after : Option Files) (taken took : Option (List ℕ)) → after ≡ Some files → Did status o files files taken took → DidTold status o files after taken took
stopped_told status o files after taken took e d = record { files = files; told = e; did = d }

pub told_as : (status : Status) (o p : Outcome) (files : Files) (after : Option Files) (taken took : Option (List ℕ)) → p ≡ o → DidTold status o files after taken took → DidTold status p files after taken took
told_as status o p files after taken took e d = subst (λ (a : Outcome). DidTold status a files after taken took) (sym e) d

-- ---- the files of `run` and `once`, one by one

abbrev run_behind_vault : Files → RunWords → (List ℕ × (List ℕ × List (List ℕ)) → Outcome) → List ℕ → List ℕ → Outcome
run_behind_vault files w go script vault = load_modules files modules_limit w.parts (λ contents. go (script, (vault, contents)))

abbrev run_behind_script : Files → RunWords → (List ℕ × (List ℕ × List (List ℕ)) → Outcome) → List ℕ → Outcome
run_behind_script files w go script = load files w.vault vault_limit (run_behind_vault files w go script)

abbrev once_behind_parts : Files → OnceWords → (List (List ℕ) × List ℕ → Outcome) → List (List ℕ) → Outcome
once_behind_parts files w go contents = load files w.vault vault_limit (λ vault. go (contents, vault))

unless_none : (o : Option (List ℕ)) (a : Outcome) → o ≡ None → unless_same o a ≡ a
unless_none o a e = ap (λ (x : Option (List ℕ)). unless_same x a) e

module _ (files : Files) (v w : RunWords) (e : v ≡ w) (alone : same_in_run w ≡ None) where
  run_to_script : (go : List ℕ × (List ℕ × List (List ℕ)) → Outcome) → run_files files w go ≡ load files v.script script_limit (run_behind_script files v go)
  run_to_script go =
      unless_none (same_in_run w) (load files w.script script_limit (run_behind_script files w go)) alone
      ∙ ap (λ (x : RunWords). load files x.script script_limit (run_behind_script files x go)) (sym e)

  pub run_stops_script : (why : Stop) → ((go : List ℕ → Outcome) → IsStop why (load files v.script script_limit go)) → (go : List ℕ × (List ℕ × List (List ℕ)) → Outcome) → IsStop why (run_files files w go)
  run_stops_script why h go = subst (λ (o : Outcome). IsStop why o) (sym (run_to_script go)) (h (run_behind_script files v go))

  module _ (script : List ℕ) (s : (go : List ℕ → Outcome) → load files v.script script_limit go ≡ go script) where
    run_to_vault : (go : List ℕ × (List ℕ × List (List ℕ)) → Outcome) → run_files files w go ≡ load files v.vault vault_limit (run_behind_vault files v go script)
    run_to_vault go = run_to_script go ∙ s (run_behind_script files v go)

    pub run_stops_vault : (why : Stop) → ((go : List ℕ → Outcome) → IsStop why (load files v.vault vault_limit go)) → (go : List ℕ × (List ℕ × List (List ℕ)) → Outcome) → IsStop why (run_files files w go)
    run_stops_vault why h go = subst (λ (o : Outcome). IsStop why o) (sym (run_to_vault go)) (h (run_behind_vault files v go script))

    module _ (vault : List ℕ) (t : (go : List ℕ → Outcome) → load files v.vault vault_limit go ≡ go vault) (parts : List NamedFile) (n : parts ≡ v.parts) where
      run_to_parts : (go : List ℕ × (List ℕ × List (List ℕ)) → Outcome) → run_files files w go ≡ load_modules files modules_limit parts (λ contents. go (script, (vault, contents)))
      run_to_parts go =
          run_to_vault go ∙ t (run_behind_vault files v go script) ∙ ap (λ (l : List NamedFile). load_modules files modules_limit l (λ contents. go (script, (vault, contents)))) (sym n)

      pub run_stops_parts : (why : Stop) → ((go : List (List ℕ) → Outcome) → IsStop why (load_modules files modules_limit parts go)) → (go : List ℕ × (List ℕ × List (List ℕ)) → Outcome) → IsStop why (run_files files w go)
      run_stops_parts why h go = subst (λ (o : Outcome). IsStop why o) (sym (run_to_parts go)) (h (λ contents. go (script, (vault, contents))))

      pub run_goes : (contents : List (List ℕ)) → ((go : List (List ℕ) → Outcome) → load_modules files modules_limit parts go ≡ go contents) → (go : List ℕ × (List ℕ × List (List ℕ)) → Outcome) → run_files files w go ≡ go (script, (vault, contents))
      run_goes contents p go = run_to_parts go ∙ p (λ x. go (script, (vault, x)))

module _ (files : Files) (v w : OnceWords) (e : v ≡ w) (alone : same_in_once w ≡ None) (contents : List (List ℕ))
    (p : (go : List (List ℕ) → Outcome) → load_modules files modules_limit (once_part v ∷ []) go ≡ go contents) where
  once_to_vault : (go : List (List ℕ) × List ℕ → Outcome) → once_files files w go ≡ load files v.vault vault_limit (λ vault. go (contents, vault))
  once_to_vault go =
      unless_none (same_in_once w) (load_modules files modules_limit (once_part w ∷ []) (once_behind_parts files w go)) alone
      ∙ ap (λ (x : OnceWords). load_modules files modules_limit (once_part x ∷ []) (once_behind_parts files x go)) (sym e)
      ∙ p (once_behind_parts files v go)

  pub once_stops_vault : (why : Stop) → ((go : List ℕ → Outcome) → IsStop why (load files v.vault vault_limit go)) → (go : List (List ℕ) × List ℕ → Outcome) → IsStop why (once_files files w go)
  once_stops_vault why h go = subst (λ (o : Outcome). IsStop why o) (sym (once_to_vault go)) (h (λ vault. go (contents, vault)))

  pub once_goes : (vault : List ℕ) → ((go : List ℕ → Outcome) → load files v.vault vault_limit go ≡ go vault) → (go : List (List ℕ) × List ℕ → Outcome) → once_files files w go ≡ go (contents, vault)
  once_goes vault t go = once_to_vault go ∙ t (λ x. go (contents, x))

-- ---- the parts that words name

pub are_parts : (loaded : List LoadedPart) (parts : List PartFile) (words : List NamedFile) → map part_of loaded ≡ parts → map part_named parts ≡ words → 1 ≤ length words → length words ≤ 64 → bytes_in loaded ≤ 134217728
    → ArePartsOf loaded words
are_parts loaded parts words p w some few within =
    let n : names loaded ≡ words = named_parts loaded ∙ ap (map part_named) p ∙ w in
    let l : length words ≡ length loaded = ap length (sym n) ∙ length-map loaded (λ (p : LoadedPart). part_named p.part) in
    record { named = n; some = subst (λ (k : ℕ). 1 ≤ k) l some; few = subst (λ (k : ℕ). k ≤ 64) l few; within = within }

-- ---- sessions that are opened

-- a step goes on with a file's bytes only where they are a text
is_text : (name bytes text : List ℕ) → ((go : List ℕ → Outcome) → on_text name bytes go ≡ go text) → is_utf8 bytes ≡ true
is_text name bytes text h = at (is_utf8 bytes) refl (h (λ x. ends Done x))
  where
    at : (b : Bool) → is_utf8 bytes ≡ b → cond b (ends Done bytes) (ends Refused (not_text_line name (utf8_valid_len bytes))) ≡ ends Done text → is_utf8 bytes ≡ true
    at true q e = q
    at false q e = let s : Refused ≡ Done = ap (λ (a : Outcome). a.status) e in cc

pub text_reading : (name bytes text : List ℕ) (reading : Result (List Move) ScriptFault) → ((go : List ℕ → Outcome) → on_text name bytes go ≡ go text) → text ≡ bytes → (is_utf8 bytes ≡ true → Reads bytes reading) → Reads text reading
text_reading name bytes text reading h e reads = subst (λ (t : List ℕ). Reads t reading) (sym e) (reads (is_text name bytes text h))

module _ (profile : Profile) (file script : List ℕ) (reading : Result (List Move) ScriptFault) (parts : List NamedFile) (contents : List (List ℕ)) (vault : List ℕ) where
  pub open_stops_text : (why : Stop) → ((go : List ℕ → Outcome) → IsStop why (on_text file script go)) → (go : List Move → ModuleSet → State → Outcome) → IsStop why (run_opened profile file script reading parts contents vault go)
  open_stops_text why h go = h (λ text. on_moves reading (λ moves. launched profile parts contents vault (go moves)))

  module _ (text : List ℕ) (t : (go : List ℕ → Outcome) → on_text file script go ≡ go text) where
    open_to_moves : (go : List Move → ModuleSet → State → Outcome) → run_opened profile file script reading parts contents vault go ≡ on_moves reading (λ moves. launched profile parts contents vault (go moves))
    open_to_moves go = t (λ text. on_moves reading (λ moves. launched profile parts contents vault (go moves)))

    pub open_stops_moves : (why : Stop) → ((go : List Move → Outcome) → IsStop why (on_moves reading go)) → (go : List Move → ModuleSet → State → Outcome) → IsStop why (run_opened profile file script reading parts contents vault go)
    open_stops_moves why h go = subst (λ (o : Outcome). IsStop why o) (sym (open_to_moves go)) (h (λ moves. launched profile parts contents vault (go moves)))

    module _ (moves : List Move) (m : (go : List Move → Outcome) → on_moves reading go ≡ go moves) where
      open_to_launch : (go : List Move → ModuleSet → State → Outcome) → run_opened profile file script reading parts contents vault go ≡ launched profile parts contents vault (go moves)
      open_to_launch go = open_to_moves go ∙ m (λ moves. launched profile parts contents vault (go moves))

      pub open_stops_launch : (why : Stop) → ((go : ModuleSet → State → Outcome) → IsStop why (launched profile parts contents vault go)) → (go : List Move → ModuleSet → State → Outcome) → IsStop why (run_opened profile file script reading parts contents vault go)
      open_stops_launch why h go = subst (λ (o : Outcome). IsStop why o) (sym (open_to_launch go)) (h (go moves))

      pub opens_run : (l : Live) (set : ModuleSet) → (s : State) × StandsFor l s × ((go : ModuleSet → State → Outcome) → launched profile parts contents vault go ≡ go set s)
          → (s : State) × StandsFor l s × ((go : List Move → ModuleSet → State → Outcome) → run_opened profile file script reading parts contents vault go ≡ go moves set s)
      opens_run l set o = (o.0, o.1, λ go. open_to_launch go ∙ o.2 (go moves))

-- ---- what moves tell and seal

pub found_within : (name : List ℕ) (limit : ℕ) (o : Option (List ℕ)) (bytes : List ℕ) → ((go : List ℕ → Outcome) → on_file name limit o go ≡ go bytes) → (o ≡ Some bytes) × (length bytes ≤ limit)
found_within name limit o bytes h = let f = found name limit o bytes h in (f.0, leb-true (length bytes) limit f.1)

pub told_writes : {E : Type 0} (run : Run) (r : Result (Unit {0}) E) (l : Live) (taken took : Option (List ℕ)) → Told run r l taken took → Writes r (told_lines run.told) taken took
told_writes run (Ok done) l taken took h = h.0
told_writes run (Err fault) l taken took h = h

pub no_ok : false ≡ true → ⊥
no_ok e = cc

told_stands : {E : Type 0} (run : Run) (r : Result (Unit {0}) E) (l : Live) (taken took : Option (List ℕ)) → Told run r l taken took → IsOk r → StandsFor l run.state
told_stands run (Ok done) l taken took h k = h.1
told_stands run (Err fault) l taken took h k = absurd (no_ok k)

pub ran_saved : {E : Type 0} (sealed : List ℕ) (moves : List Move) (set : ModuleSet) (s : State) (r : Result (Unit {0}) E) (l : Live) (taken took : Option (List ℕ)) (name bytes : List ℕ) → Told (plays set s moves) r l taken took
    → name ≡ sealed → bytes ≡ l.sealed.items → IsOk r → IsSaved (ran sealed moves set s) name bytes
ran_saved sealed moves set s r l taken took name bytes h n b k =
    let e : bytes ≡ (plays set s moves).state.sealed = b ∙ (told_stands (plays set s moves) r l taken took h k).sealed in
    record { done = refl; saves = ap (λ (x : List ℕ). (x, (plays set s moves).state.sealed) ∷ []) (sym n) ∙ ap (λ (x : List ℕ). (name, x) ∷ []) (sym e) }

-- ---- answers behind what was loaded

pub run_is : (files : Files) (profile : Profile) (reading : Result (List Move) ScriptFault) (w : RunWords) (script vault file text : List ℕ) (loaded seen : List LoadedPart)
    → ((go : List ℕ × (List ℕ × List (List ℕ)) → Outcome) → run_files files w go ≡ go (script, (vault, contents loaded))) → names loaded ≡ w.parts → seen ≡ loaded → text ≡ script → file ≡ w.script
    → run_answer files profile reading w ≡ run_opened profile file text reading (names seen) (contents seen) vault (λ moves. ran w.sealed moves)
run_is files profile reading w script vault file text loaded seen h n e t f =
    h (behind_run profile reading w) ∙ ap (λ (l : List NamedFile). run_opened profile w.script script reading l (contents loaded) vault (λ moves. ran w.sealed moves)) (sym n)
    ∙ ap (λ (l : List LoadedPart). run_opened profile w.script script reading (names l) (contents l) vault (λ moves. ran w.sealed moves)) (sym e)
    ∙ ap (λ (x : List ℕ). run_opened profile w.script x reading (names seen) (contents seen) vault (λ moves. ran w.sealed moves)) (sym t)
    ∙ ap (λ (x : List ℕ). run_opened profile x text reading (names seen) (contents seen) vault (λ moves. ran w.sealed moves)) (sym f)

-- the reading of the script that was loaded
pub script_reads : (files : Files) (name script text : List ℕ) (reading : Result (List Move) ScriptFault) → get files name ≡ Some script → length script ≤ script_limit → text ≡ script
    → ((t : List ℕ) → get files name ≡ Some t → length t ≤ script_limit → is_utf8 t ≡ true → Reads t reading) → is_utf8 text ≡ true → Reads text reading
script_reads files name script text reading g s e reads u = subst (λ (t : List ℕ). Reads t reading) (sym e) (reads script g s (ap is_utf8 (sym e) ∙ u))

pub same_script : (o : Option (List ℕ)) (a b : List ℕ) → o ≡ Some a → o ≡ Some b → a ≡ b
same_script o a b x y = let e : Some a ≡ Some b = sym x ∙ y in cc

pub once_is : (files : Files) (profile : Profile) (w : OnceWords) (vault : List ℕ) (loaded seen : List LoadedPart) → ((go : List (List ℕ) × List ℕ → Outcome) → once_files files w go ≡ go (contents loaded, vault))
    → names loaded ≡ once_part w ∷ [] → seen ≡ loaded → once_answer files profile w ≡ launched profile (names seen) (contents seen) vault (ran w.sealed (once_moves w))
once_is files profile w vault loaded seen h n e =
    h (behind_once profile w) ∙ ap (λ (l : List NamedFile). launched profile l (contents loaded) vault (ran w.sealed (once_moves w))) (sym n)
    ∙ ap (λ (l : List LoadedPart). launched profile (names l) (contents l) vault (ran w.sealed (once_moves w))) (sym e)

pub stops_as : (why : Stop) (o p : Outcome) → p ≡ o → IsStop why o → IsStop why p
stops_as why o p e h = subst (λ (x : Outcome). IsStop why x) (sym e) h

-- ---- where nothing is done behind a step, the step isn't done

file_refused : (name : List ℕ) (limit : ℕ) (o : Option (List ℕ)) (go : List ℕ → Outcome) → ((x : List ℕ) → (go x).status ≡ Refused) → (on_file name limit o go).status ≡ Refused
file_refused name limit None go h = refl
file_refused name limit (Some bytes) go h = at (nat_le (length bytes) limit)
  where
    at : (b : Bool) → (cond b (go bytes) (refuses (codes "TooLarge") name)).status ≡ Refused
    at true = h bytes
    at false = refl

modules_refused : (files : Files) (left : ℕ) (parts : List NamedFile) (go : List (List ℕ) → Outcome) → ((x : List (List ℕ)) → (go x).status ≡ Refused) → (load_modules files left parts go).status ≡ Refused
modules_refused files left [] go h = h []
modules_refused files left (part ∷ parts) go h =
    file_refused part.file (at_most module_limit left) (get files part.file) (λ bytes. load_modules files (left - length bytes) parts (λ others. go (bytes ∷ others)))
    (λ bytes. modules_refused files (left - length bytes) parts (λ others. go (bytes ∷ others)) (λ others. h (bytes ∷ others)))

unless_refused : (o : Option (List ℕ)) (a : Outcome) → a.status ≡ Refused → (unless_same o a).status ≡ Refused
unless_refused (Some word) a h = refl
unless_refused None a h = h

abbrev pub run_refusing : Files → RunWords → Outcome
run_refusing files w = run_files files w (λ x. ends Refused [])

pub run_refused : (files : Files) (w : RunWords) → (run_refusing files w).status ≡ Refused
run_refused files w =
    unless_refused (same_in_run w) (load files w.script script_limit (run_behind_script files w (λ x. ends Refused [])))
    (file_refused w.script script_limit (get files w.script) (run_behind_script files w (λ x. ends Refused []))
    (λ script. file_refused w.vault vault_limit (get files w.vault) (run_behind_vault files w (λ x. ends Refused []) script)
    (λ vault. modules_refused files modules_limit w.parts (λ contents. ends Refused []) (λ contents. refl))))

-- such an answer isn't done
pub refused_not_done : (status : Status) (o : Outcome) (before after : Files) (taken took : Option (List ℕ)) → Did status o before after taken took → o.status ≡ Refused → status ≡ Done → ⊥
refused_not_done status o before after taken took d r e = clash ((subst (λ (s : Status). Did s o before after taken took) e d).0 ∙ r)
  where
    clash : Done ≡ Refused → ⊥
    clash x = cc
