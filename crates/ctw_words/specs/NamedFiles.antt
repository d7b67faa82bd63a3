-- Words that name a part and its file.
use Rattle.std.specs.Prelude.{ℕ, ◌==◌, List, [], ◌∷◌, Option, Some, None, option_map, option_and_then, if◌then◌else◌}
use Rattle.ctw_inputs.specs.Inputs.{NamedFile}

-- a word cut at its first `=`; None where it has none
abbrev pub cut_at_equals : List ℕ → Option (List ℕ × List ℕ)
cut_at_equals [] = None
cut_at_equals (byte ∷ word) =
    if byte == 61 then Some ([], word) else option_map (λ halves. (byte ∷ halves.0, halves.1)) (cut_at_equals word)

-- the name isn't empty
abbrev pub unless_unnamed : List ℕ × List ℕ → Option NamedFile
unless_unnamed ([], file) = None
unless_unnamed (name, file) = Some (record { name = name; file = file })

-- a word NAME=M
abbrev pub named_file : List ℕ → Option NamedFile
named_file word = option_and_then unless_unnamed (cut_at_equals word)

-- what words stand for, one after another; None where one of them stands for nothing
abbrev pub all_read : {A : Type 0} → (List ℕ → Option A) → List (List ℕ) → Option (List A)
all_read read [] = Some []
all_read read (word ∷ words) =
    option_and_then (λ first. option_map (λ others. first ∷ others) (all_read read words)) (read word)

abbrev pub named_files : List (List ℕ) → Option (List NamedFile)
named_files words = all_read named_file words
