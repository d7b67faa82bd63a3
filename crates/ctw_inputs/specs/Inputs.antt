-- The order of work up to linked sets: the files of words are loaded, their texts and modules are read, and modules are
-- checked and linked. Each step goes on with what it found, or refuses.
use Rattle.std.specs.Prelude.{ℕ, ◌-◌, List, [], ◌∷◌, length, Option, Some, None, Result, Ok, Err, if◌then◌else◌, nat_le, codes}
use Rattle.std.specs.Str.{is_utf8}
use Rattle.std.specs.Str.Lossy.{utf8_valid_len}
use Rattle.std.specs.FinMap.{get}
use Rattle.ctw_io.specs.Files.{Files}
use Rattle.ctw_ops.specs.declared.types.Label.{Label}
use Rattle.ctw_ops.specs.declared.numeric.Profile.{Profile}
use Rattle.ctw_ops.specs.Tree.{Module, under}
use Rattle.ctw_form.specs.declared.fault.FormFault.{FormFault}
use Rattle.ctw_form.specs.Read.{module_at}
use Rattle.ctw_script.specs.declared.moves.Move.{Move}
use Rattle.ctw_script.specs.declared.script.ScriptFault.{ScriptFault}
use Rattle.ctw_modcheck.specs.declared.fault.Invalid.{Invalid}
use Rattle.ctw_modcheck.specs.Check.{fault_of}
use Rattle.ctw_link.specs.declared.fault.LinkFault.{LinkFault}
use Rattle.ctw_link.specs.Sets.{ModuleSet}
use Rattle.ctw_link.specs.Faults.{set_fault}
use Rattle.ctw_lines.specs.Lines.{refusal_line, not_text_line, read_line, check_line, script_line}
use Rattle.ctw_inputs.specs.declared.said.Status.TheVariants.{Refused}
use Rattle.ctw_inputs.specs.Outcome.{Outcome, ends}
use Rattle.ctw_inputs.specs.Lines.{link_line}

-- ---- the limits on files, in bytes

unfoldable pub module_limit : ℕ
module_limit = 67108864

unfoldable pub modules_limit : ℕ
modules_limit = 134217728

unfoldable pub script_limit : ℕ
script_limit = 1048576

unfoldable pub marks_limit : ℕ
marks_limit = 1048576

unfoldable pub vault_limit : ℕ
vault_limit = 16777216

-- ---- files

-- refuses a file or a word
abbrev pub refuses : List ℕ → List ℕ → Outcome
refuses kind word = ends Refused (refusal_line kind word)

abbrev pub on_file : List ℕ → ℕ → Option (List ℕ) → (List ℕ → Outcome) → Outcome
on_file name limit None go = refuses (codes "Missing") name
on_file name limit (Some bytes) go = if nat_le (length bytes) limit then go bytes else refuses (codes "TooLarge") name

abbrev pub load : Files → List ℕ → ℕ → (List ℕ → Outcome) → Outcome
load files name limit go = on_file name limit (get files name) go

-- a part's name and the file of its module
pub record NamedFile : Type 0 where
  pub name : List ℕ
  pub file : List ℕ

abbrev pub at_most : ℕ → ℕ → ℕ
at_most limit left = if nat_le limit left then limit else left

-- the files of modules in order, of which so many bytes are left
abbrev pub load_modules : Files → ℕ → List NamedFile → (List (List ℕ) → Outcome) → Outcome
load_modules files left [] go = go []
load_modules files left (part ∷ parts) go =
    load files part.file (at_most module_limit left)
    (λ bytes. load_modules files (left - length bytes) parts (λ others. go (bytes ∷ others)))

-- ---- texts

-- a file's bytes as a text
abbrev pub on_text : List ℕ → List ℕ → (List ℕ → Outcome) → Outcome
on_text name bytes go =
    if is_utf8 bytes then go bytes else ends Refused (not_text_line name (utf8_valid_len bytes))

-- the moves of a script, or its first fault
abbrev pub on_moves : Result (List Move) ScriptFault → (List Move → Outcome) → Outcome
on_moves (Ok moves) go = go moves
on_moves (Err fault) go = ends Refused (script_line fault)

-- ---- modules

-- a file's module, where the bytes spell one
abbrev pub on_form : List ℕ → Result (Module Label) FormFault → (Module Label → Outcome) → Outcome
on_form name (Err fault) go = ends Refused (read_line name fault)
on_form name (Ok m) go = go m

abbrev pub read : List ℕ → List ℕ → (Module Label → Outcome) → Outcome
read name bytes go = on_form name (module_at bytes) go

abbrev pub on_fault : List ℕ → Option Invalid → Outcome → Outcome
on_fault name (Some fault) go = ends Refused (check_line name fault)
on_fault name None go = go

-- goes on where the module is valid
abbrev pub check : List ℕ → Module Label → Outcome → Outcome
check name m go = on_fault name (fault_of m) go

abbrev pub with_profile : Profile → Result (Module Label) FormFault → Result (Module Label) FormFault
with_profile profile (Ok m) = Ok (under profile m)
with_profile profile (Err fault) = Err fault

-- the module that bytes spell, under a profile
abbrev pub module_under : Profile → List ℕ → Result (Module Label) FormFault
module_under profile bytes = with_profile profile (module_at bytes)

-- a file's module under a profile, where the bytes spell one that is valid
abbrev pub read_valid : Profile → List ℕ → List ℕ → (Module Label → Outcome) → Outcome
read_valid profile name bytes go = on_form name (module_under profile bytes) (λ m. check name m (go m))

-- ---- sets

-- the modules of parts in order, each read and checked before the next
abbrev pub read_parts : Profile → List NamedFile → List (List ℕ) → (ModuleSet → Outcome) → Outcome
read_parts profile (part ∷ parts) (bytes ∷ others) go =
    read_valid profile part.file bytes
    (λ m. read_parts profile parts others (λ set. go (record { name = part.name; tree = m } ∷ set)))
read_parts profile parts others go = go []

abbrev pub on_set : ModuleSet → Option LinkFault → Outcome → Outcome
on_set set (Some fault) go = ends Refused (link_line set fault)
on_set set None go = go

-- goes on where the set matches
abbrev pub match : ModuleSet → Outcome → Outcome
match set go = on_set set (set_fault set) go

-- the parts are read, checked and linked
abbrev pub linked : Profile → List NamedFile → List (List ℕ) → (ModuleSet → Outcome) → Outcome
linked profile parts contents go = read_parts profile parts contents (λ set. match set (go set))
