-- The answer of the program: what its words give over told files, where the script has this reading and the marks this
-- finding.
use Rattle.std.specs.Prelude.{◌≡◌, ◌≤◌, ℕ, List, [], ◌∷◌, length, true, Option, Some, None, Result, codes}
use Rattle.std.specs.Str.{is_utf8}
use Rattle.std.specs.FinMap.{get}
use Rattle.ctw_ops.specs.declared.numeric.Profile.{Profile}
use Rattle.ctw_ops.specs.Tree.{under}
use Rattle.ctw_ops.specs.Erasure.{erase_module}
use Rattle.ctw_ops.specs.Limits.{most_steps}
use Rattle.ctw_script.specs.declared.moves.Arg.{Arg}
use Rattle.ctw_script.specs.declared.moves.Move.{Move}
use Rattle.ctw_script.specs.declared.moves.Move.TheVariants.{Begin, Turn}
use Rattle.ctw_script.specs.declared.script.ScriptFault.{ScriptFault}
use Rattle.ctw_write.specs.Canon.{canon}
use Rattle.ctw_text.specs.Print.{printed as text_of_module}
use Rattle.ctw_link.specs.Sets.{ModuleSet}
use Rattle.ctw_io.specs.Files.{Files}
use Rattle.ctw_moves.specs.States.{State}
use Rattle.ctw_moves.specs.Runs.{plays}
use Rattle.ctw_moves.specs.LaunchedStates.{launch}
use Rattle.ctw_gen.specs.Workload.{marks}
use Rattle.ctw_workloads.specs.Placed.{workload_under}
use Rattle.ctw_inputs.specs.declared.said.Status.TheVariants.{Done, Usage}
use Rattle.ctw_inputs.specs.Outcome.{Execution, Outcome, ends}
use Rattle.ctw_inputs.specs.Inputs.{NamedFile, module_limit, modules_limit, script_limit, marks_limit, vault_limit, refuses, load, load_modules, on_text, on_moves, read, read_valid, linked}
use Rattle.ctw_inputs.specs.Settling.{Reads}
use Rattle.ctwasm_top.specs.Lines.{linked_line, told_lines}
use Rattle.ctwasm_top.specs.Usage.{usage_text}
use Rattle.ctw_words.specs.SessionWords.{OnceWords, RunWords, same_in_once, same_in_run}
use Rattle.ctw_words.specs.Words.{Command, Check, Canon, Assemble, Text, Infer, Strip, Link, Run, Once, Work, command_of}
use Rattle.ctwasm_top.specs.Inference.{Found, inferred, IsFound}
use Rattle.ctwasm_top.specs.Marked.{HoldsMarked}
use Rattle.ctwasm_top.specs.Launching.{on_launch}
use Rattle.ctwasm_top.specs.Texts.{assemble_answer}
use Rattle.ctwasm_top.specs.Works.{work_answer}

-- ---- the commands `check`, `canon`, `text`, `strip` and `link`

-- over the bytes of the file
abbrev pub checked : Profile → List ℕ → List ℕ → Outcome
checked profile file bytes = read_valid profile file bytes (λ m. ends Done (codes "ok\n"))

abbrev pub spelled : List ℕ → List ℕ → Outcome
spelled file bytes = read file bytes (λ m. ends Done (canon m))

abbrev pub printed : Profile → List ℕ → List ℕ → Outcome
printed profile file bytes = read_valid profile file bytes (λ m. ends Done (text_of_module m))

abbrev pub stripped : Profile → List ℕ → List ℕ → Outcome
stripped profile file bytes = read_valid profile file bytes (λ m. ends Done (canon (erase_module m)))

abbrev pub matched : Profile → List NamedFile → List (List ℕ) → Outcome
matched profile parts contents = linked profile parts contents (λ set. ends Done (linked_line (length set)))

-- ---- the command `infer`

abbrev pub infer_answer : Files → Found → Profile → List ℕ → List ℕ → Outcome
infer_answer files found profile file marks_file =
    load files file module_limit
    (λ bytes. load files marks_file marks_limit
    (λ marks. on_text marks_file marks (λ text. read_valid profile file bytes (inferred found))))

-- ---- the commands `run` and `once`

-- all moves are made; what they tell is written, and what they seal is saved
abbrev pub ran : List ℕ → List Move → ModuleSet → State → Outcome
ran sealed moves set s = record {
  out = told_lines (plays set s moves).told;
  saves = (sealed, (plays set s moves).state.sealed) ∷ [];
  status = Done;
  execution = Some (record { set = set; state = s; moves = moves });
}

-- parts over the bytes of their files, with the vault's: they are linked and launched
abbrev pub launched : Profile → List NamedFile → List (List ℕ) → List ℕ → (ModuleSet → State → Outcome) → Outcome
launched profile parts contents vault go =
    linked profile parts contents (λ set. on_launch (launch set vault) (go set))

abbrev pub unless_same : Option (List ℕ) → Outcome → Outcome
unless_same (Some word) go = refuses (codes "SameFile") word
unless_same None go = go

-- the one part of `once`
abbrev pub once_part : OnceWords → NamedFile
once_part w = record { name = codes "m"; file = w.module_file }

-- an export of the part `m` is called, and takes as many steps as a turn may
abbrev pub call_of : List ℕ → List Arg → List Move
call_of export arguments = Begin 0 (codes "m") export arguments ∷ Turn 0 most_steps ∷ []

abbrev pub once_moves : OnceWords → List Move
once_moves w = call_of w.export w.arguments

abbrev pub once_answer : Files → Profile → OnceWords → Outcome
once_answer files profile w =
    unless_same (same_in_once w)
    (load_modules files modules_limit (once_part w ∷ [])
    (λ contents. load files w.vault vault_limit
    (λ vault. launched profile (once_part w ∷ []) contents vault (ran w.sealed (once_moves w)))))

abbrev pub run_answer : Files → Profile → Result (List Move) ScriptFault → RunWords → Outcome
run_answer files profile reading w =
    unless_same (same_in_run w)
    (load files w.script script_limit
    (λ script. load files w.vault vault_limit
    (λ vault. load_modules files modules_limit w.parts
    (λ contents. on_text w.script script
    (λ text. on_moves reading (λ moves. launched profile w.parts contents vault (ran w.sealed moves)))))))

-- ---- all commands

abbrev pub command_answer : Files → Result (List Move) ScriptFault → Found → Command → Outcome
command_answer files reading found (Check profile file) = load files file module_limit (checked profile file)
command_answer files reading found (Canon file) = load files file module_limit (spelled file)
command_answer files reading found (Assemble file) = assemble_answer files file
command_answer files reading found (Text profile file) = load files file module_limit (printed profile file)
command_answer files reading found (Infer profile file marks) = infer_answer files found profile file marks
command_answer files reading found (Strip profile file) = load files file module_limit (stripped profile file)
command_answer files reading found (Link profile parts) = load_modules files modules_limit parts (matched profile parts)
command_answer files reading found (Run profile w) = run_answer files profile reading w
command_answer files reading found (Once profile w) = once_answer files profile w
command_answer files reading found (Work profile seed size) = work_answer found profile seed size

abbrev pub on_words : Files → Result (List Move) ScriptFault → Found → Option Command → Outcome
on_words files reading found None = ends Usage usage_text
on_words files reading found (Some command) = command_answer files reading found command

-- what the words give over these files, where the script that they name has this reading and the marks this finding
unfoldable pub answer : List (List ℕ) → Files → Result (List Move) ScriptFault → Found → Outcome
answer words files reading found = on_words files reading found (command_of words)

-- the reading of the script that a command names, where it is there, short enough, and a text; there is one at most
abbrev pub ReadsScript : Option Command → Files → Result (List Move) ScriptFault → Type 0
ReadsScript (Some (Run profile w)) files reading =
    (text : List ℕ) → get files w.script ≡ Some text → length text ≤ script_limit → is_utf8 text ≡ true
    → Reads text reading
ReadsScript command files reading = Unit {0}

-- The finding on the marks that a command names: the files are there and within limits, the module is valid and plain,
-- and the marks are a text. For `work` it is the finding on a workload.
abbrev pub FindsMarks : Option Command → Files → Found → Type 0
FindsMarks (Some (Infer profile file marks)) files found =
    (h : HoldsMarked files profile file marks) → IsFound (under profile h.tree) h.text found
FindsMarks (Some (Work profile seed size)) files found = IsFound (workload_under profile seed size) marks found
FindsMarks command files found = Unit {0}

-- what an execution released; nothing where there is none
abbrev pub released_in : Option Execution → List ℕ
released_in None = []
released_in (Some e) = (plays e.set e.state e.moves).releases

abbrev pub releases : List (List ℕ) → Files → Result (List Move) ScriptFault → Found → List ℕ
releases words files reading found = released_in (answer words files reading found).execution
