use Rattle.std.proofs.Common.{◌≡◌, ℕ, Bool, List, map, drop, filter_map, string_bytes}
use Rattle.std.specs.List.{list_any}
use Rattle.std.specs.Str.{bytes_eq}
use Rattle.ctw_words.specs.NamedFiles.{named_file}
use Rattle.ctw_words.proofs.words.PartWords.has_file.Given as goal

-- whether one of the words names a part with this file
abbrev names_file : List ℕ → List (List ℕ) → Bool
names_file file words = list_any (bytes_eq file) (map (λ p. p.file) (filter_map named_file words))

abbrev pub invariant-words : goal.invariant-words
invariant-words l = names_file l.file (map string_bytes l.word-items) ≡ names_file l.file (map string_bytes (drop l.word-index l.word-items))
