-- The words of the commands that run sets.
use Rattle.std.specs.Prelude.{ℕ, ◌&&◌, List, [], ◌∷◌, map, length, Option, Some, None, option_map, if◌then◌else◌, nat_le, codes}
use Rattle.std.specs.List.{list_any}
use Rattle.std.specs.Str.{bytes_eq}
use Rattle.ctw_script.specs.declared.moves.Arg.{Arg}
use Rattle.ctw_script.specs.MoveValues.{argument_value}
use Rattle.ctw_inputs.specs.Inputs.{NamedFile}
use Rattle.ctw_words.specs.NamedFiles.{all_read, named_files}

-- the words of `once M VAULT SEALED EXPORT ARG..`
pub record OnceWords : Type 0 where
  pub module_file : List ℕ
  pub vault : List ℕ
  pub sealed : List ℕ
  pub export : List ℕ
  pub arguments : List Arg

-- the words of `run SCRIPT VAULT SEALED NAME=M..`
pub record RunWords : Type 0 where
  pub script : List ℕ
  pub vault : List ℕ
  pub sealed : List ℕ
  pub parts : List NamedFile

-- the arguments that words are, as in a script; None where one of the words is none
abbrev pub arguments_of : List (List ℕ) → Option (List Arg)
arguments_of words = all_read argument_value words

abbrev pub once_words : List (List ℕ) → Option OnceWords
once_words (command ∷ m ∷ vault ∷ sealed ∷ export ∷ words) =
    if bytes_eq command (codes "once")
    then option_map
    (λ arguments.
    record { module_file = m; vault = vault; sealed = sealed; export = export; arguments = arguments })
    (arguments_of words)
    else None
once_words _ = None

-- 1 to 64 words NAME=M
abbrev pub part_words : List (List ℕ) → Option (List NamedFile)
part_words words = if nat_le 1 (length words) && nat_le (length words) 64 then named_files words else None

abbrev pub run_words : List (List ℕ) → Option RunWords
run_words (command ∷ script ∷ vault ∷ sealed ∷ words) =
    if bytes_eq command (codes "run")
    then option_map (λ parts. record { script = script; vault = vault; sealed = sealed; parts = parts }) (part_words words)
    else None
run_words _ = None

-- VAULT where it is the word of another file too, else SEALED where it is
abbrev pub same_file : List ℕ → List ℕ → List (List ℕ) → Option (List ℕ)
same_file vault sealed others =
    if list_any (bytes_eq vault) (sealed ∷ others) then Some vault
    else if list_any (bytes_eq sealed) others then Some sealed
    else None

abbrev pub same_in_once : OnceWords → Option (List ℕ)
same_in_once w = same_file w.vault w.sealed (w.module_file ∷ [])

abbrev pub same_in_run : RunWords → Option (List ℕ)
same_in_run w = same_file w.vault w.sealed (w.script ∷ map (λ part. part.file) w.parts)
