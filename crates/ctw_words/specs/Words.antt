-- The words of the command line.
use Rattle.std.specs.Prelude.{◌≡◌, ℕ, ◌&&◌, List, [], ◌∷◌, Option, Some, None, option_map, if◌then◌else◌, length, nat_le, codes}
use Rattle.std.specs.Str.{bytes_eq, all_ascii_digits}
use Rattle.std.specs.Str.Parse.{digits_value}
use Rattle.ctw_ops.specs.declared.numeric.Profile.{Profile}
use Rattle.ctw_ops.specs.declared.numeric.Profile.TheVariants.{Divide, Multiply}
use Rattle.ctw_inputs.specs.Inputs.{NamedFile}
use Rattle.ctw_words.specs.SessionWords.{OnceWords, RunWords, once_words, run_words, part_words, same_in_once, same_in_run}

-- The commands with their files: `check M`, `canon M`, `text M`, `infer M MARKS`, `strip M`, `link NAME=M..`,
-- `run SCRIPT VAULT SEALED NAME=M..`, `once M VAULT SEALED EXPORT ARG..` and `work SEED SIZE`, and the profile of their
-- modules; and `assemble T`.
pub data Command : Type 0 where
  Check : (profile : Profile) (module_file : List ℕ) → Command
  Canon : (module_file : List ℕ) → Command
  Assemble : (text_file : List ℕ) → Command
  Text : (profile : Profile) (module_file : List ℕ) → Command
  Infer : (profile : Profile) (module_file marks_file : List ℕ) → Command
  Strip : (profile : Profile) (module_file : List ℕ) → Command
  Link : (profile : Profile) (parts : List NamedFile) → Command
  Run : (profile : Profile) (words : RunWords) → Command
  Once : (profile : Profile) (words : OnceWords) → Command
  Work : (profile : Profile) (seed size : ℕ) → Command

-- the one word behind a command's
abbrev pub file_words : List ℕ → List (List ℕ) → Option (List ℕ)
file_words name (command ∷ file ∷ []) = if bytes_eq command name then Some file else None
file_words name words = None

-- the two words behind `infer`
abbrev pub infer_words : List (List ℕ) → Option (List ℕ × List ℕ)
infer_words (command ∷ file ∷ marks ∷ []) = if bytes_eq command (codes "infer") then Some (file, marks) else None
infer_words words = None

-- the words behind `link`
abbrev pub link_words : List (List ℕ) → Option (List NamedFile)
link_words (command ∷ words) = if bytes_eq command (codes "link") then part_words words else None
link_words [] = None

-- the number that one or more decimal digits write, where it is from `least` to `most`
abbrev pub within : (least most : ℕ) → ℕ → Option ℕ
within least most n = if nat_le least n && nat_le n most then Some n else None

abbrev pub number_word : (least most : ℕ) → List ℕ → Option ℕ
number_word least most word =
    if nat_le 1 (length word) && all_ascii_digits word then within least most (digits_value 10 word) else None

-- the words behind `work`: a seed below 2^31, and a size from 1 to 20,000
abbrev pub seed_and_size : Option ℕ → Option ℕ → Option (ℕ × ℕ)
seed_and_size (Some seed) (Some size) = Some (seed, size)
seed_and_size _ _ = None

abbrev pub work_words : List (List ℕ) → Option (ℕ × ℕ)
work_words (command ∷ seed ∷ size ∷ []) =
    if bytes_eq command (codes "work") then seed_and_size (number_word 0 2147483647 seed) (number_word 1 20000 size) else None
work_words words = None

abbrev pub or_command : Option Command → Option Command → Option Command
or_command (Some command) other = Some command
or_command None other = other

-- a command to which a profile matters
abbrev pub profiled_command : Profile → List (List ℕ) → Option Command
profiled_command profile words =
    or_command (option_map (Check profile) (file_words (codes "check") words))
    (or_command (option_map (Text profile) (file_words (codes "text") words))
    (or_command (option_map (λ files. Infer profile files.0 files.1) (infer_words words))
    (or_command (option_map (Strip profile) (file_words (codes "strip") words))
    (or_command (option_map (Link profile) (link_words words))
    (or_command (option_map (Run profile) (run_words words))
    (or_command (option_map (Once profile) (once_words words))
    (option_map (λ numbers. Work profile numbers.0 numbers.1) (work_words words))))))))

-- such a command behind the word `mul`
abbrev pub mul_command : List (List ℕ) → Option Command
mul_command (word ∷ words) = if bytes_eq word (codes "mul") then profiled_command Multiply words else None
mul_command [] = None

-- the command that the words have the form of
abbrev pub command_of : List (List ℕ) → Option Command
command_of words =
    or_command (profiled_command Divide words)
    (or_command (mul_command words)
    (or_command (option_map Canon (file_words (codes "canon") words))
    (option_map Assemble (file_words (codes "assemble") words))))

-- the word of a command's vault, where the command has one
abbrev pub vault_in : Option Command → Option (List ℕ)
vault_in (Some (Run profile w)) = Some w.vault
vault_in (Some (Once profile w)) = Some w.vault
vault_in _ = None

abbrev pub vault_word : List (List ℕ) → Option (List ℕ)
vault_word words = vault_in (command_of words)

-- The command's files are loaded: wrong words and `work` name none, and where VAULT or SEALED is the word of another file too, the
-- command ends before its first load.
abbrev pub LoadsFiles : Option Command → Type 0
LoadsFiles None = ⊥
LoadsFiles (Some (Work profile seed size)) = ⊥
LoadsFiles (Some (Run profile w)) = same_in_run w ≡ None
LoadsFiles (Some (Once profile w)) = same_in_once w ≡ None
LoadsFiles (Some (Check profile file)) = Unit {0}
LoadsFiles (Some (Canon file)) = Unit {0}
LoadsFiles (Some (Assemble file)) = Unit {0}
LoadsFiles (Some (Text profile file)) = Unit {0}
LoadsFiles (Some (Infer profile file marks)) = Unit {0}
LoadsFiles (Some (Strip profile file)) = Unit {0}
LoadsFiles (Some (Link profile parts)) = Unit {0}
