use Rattle.std.proofs.Common.{◌≡◌, map, drop, is_some, string_bytes}
use Rattle.ctw_words.specs.NamedFiles.{named_files}
use Rattle.ctw_words.proofs.words.are_named.Given as goal

abbrev pub invariant-words : goal.invariant-words
invariant-words l = is_some (named_files (map string_bytes l.words)) ≡ is_some (named_files (map string_bytes (drop l.word-index l.words)))
