-- What starting a session and making its moves answers.
use Rattle.std.specs.Prelude.{◌≡◌, ◌≤◌, ℕ, List, [], ◌∷◌, length, Option, Result, Ok, Err}
use Rattle.ctw_io.specs.Files.{Files}
use Rattle.ctw_io.specs.Taken.{grown, TookPrefix}
use Rattle.ctw_ops.specs.declared.numeric.Profile.{Profile}
use Rattle.ctw_script.specs.declared.moves.Move.{Move}
use Rattle.ctw_script.specs.declared.script.ScriptFault.{ScriptFault}
use Rattle.ctw_link.specs.Sets.{ModuleSet, set_of}
use Rattle.ctw_moves.specs.States.{State}
use Rattle.ctw_moves.specs.Runs.{Run}
use Rattle.ctw_session.specs.declared.live.Live.{Live}
use Rattle.ctw_session.specs.LiveStates.{StandsFor}
use Rattle.ctw_inputs.specs.declared.said.Stop.{Stop}
use Rattle.ctw_inputs.specs.declared.said.Status.TheVariants.{Done}
use Rattle.ctw_inputs.specs.declared.parts.LoadedPart.{LoadedPart}
use Rattle.ctw_inputs.specs.Outcome.{Outcome}
use Rattle.ctw_inputs.specs.Inputs.{NamedFile, modules_limit, script_limit, vault_limit, load, load_modules, on_text, on_moves}
use Rattle.ctw_inputs.specs.Parts.{names, bytes_in}
use Rattle.ctw_inputs.specs.Settling.{IsStop}
use Rattle.ctwasm_top.specs.declared.running.Opened.{Opened}
use Rattle.ctwasm_top.specs.Lines.{told_lines}
use Rattle.ctw_words.specs.SessionWords.{OnceWords, RunWords, same_in_once, same_in_run}
use Rattle.ctwasm_top.specs.Answer.{unless_same, once_part, launched}

-- a session stands for the state with which the answer goes on, or the command stops
abbrev pub Opens : {T : Type 0} → (T → Live) → Result T Stop → ((ModuleSet → State → Outcome) → Outcome) → Type 0
Opens seen (Ok x) step =
    (s : State) × StandsFor (seen x) s × ((go : ModuleSet → State → Outcome) → step go ≡ go (set_of (seen x).set) s)
Opens seen (Err stop) step = (go : ModuleSet → State → Outcome) → IsStop stop (step go)

-- what moves tell was taken, and the session stands for the state behind them; or a prefix of it was taken
abbrev pub Told : {E : Type 0} → Run → Result (Unit {0}) E → Live → Option (List ℕ) → Option (List ℕ) → Type 0
Told run (Ok done) l taken took = (took ≡ grown taken (told_lines run.told)) × StandsFor l run.state
Told run (Err fault) l taken took = TookPrefix taken took (told_lines run.told)

-- a text was written whole, or a prefix of it was
abbrev pub Writes : {E : Type 0} → Result (Unit {0}) E → List ℕ → Option (List ℕ) → Option (List ℕ) → Type 0
Writes (Ok done) text taken took = took ≡ grown taken text
Writes (Err fault) text taken took = TookPrefix taken took text

-- an outcome that is done with these bytes under this name
pub record IsSaved (o : Outcome) (name bytes : List ℕ) : Type 0 where
  pub done : o.status ≡ Done
  pub saves : o.saves ≡ (name, bytes) ∷ []

-- ---- `run` and `once`

-- the loaded parts are those that words name: 1 to 64, within the limit on all of them
pub record ArePartsOf (loaded : List LoadedPart) (parts : List NamedFile) : Type 0 where
  pub named : names loaded ≡ parts
  pub some : 1 ≤ length loaded
  pub few : length loaded ≤ 64
  pub within : bytes_in loaded ≤ 134217728

-- the files of `run` in their order: script, vault and parts
abbrev pub run_files : Files → RunWords → (List ℕ × (List ℕ × List (List ℕ)) → Outcome) → Outcome
run_files files w go =
    unless_same (same_in_run w)
    (load files w.script script_limit
    (λ script. load files w.vault vault_limit
    (λ vault. load_modules files modules_limit w.parts (λ contents. go (script, (vault, contents))))))

-- the files of `once` in their order: the module and the vault
abbrev pub once_files : Files → OnceWords → (List (List ℕ) × List ℕ → Outcome) → Outcome
once_files files w go =
    unless_same (same_in_once w)
    (load_modules files modules_limit (once_part w ∷ [])
    (λ contents. load files w.vault vault_limit (λ vault. go (contents, vault))))

-- the script's text and moves, and the launched parts
abbrev pub run_opened : Profile → List ℕ → List ℕ → Result (List Move) ScriptFault → List NamedFile → List (List ℕ)
    → List ℕ → (List Move → ModuleSet → State → Outcome) → Outcome
run_opened profile file script reading parts contents vault go =
    on_text file script (λ text. on_moves reading (λ moves. launched profile parts contents vault (go moves)))

-- a session and moves with which the answer goes on, or the command stops
abbrev pub OpensRun : Result Opened Stop → ((List Move → ModuleSet → State → Outcome) → Outcome) → Type 0
OpensRun (Ok o) step =
    (s : State) × StandsFor o.session s
    × ((go : List Move → ModuleSet → State → Outcome) → step go ≡ go o.moves (set_of o.session.set) s)
OpensRun (Err stop) step = (go : List Move → ModuleSet → State → Outcome) → IsStop stop (step go)
