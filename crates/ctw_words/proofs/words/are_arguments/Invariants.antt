use Rattle.std.proofs.Common.{◌≡◌, map, drop, is_some, string_bytes}
use Rattle.ctw_words.specs.SessionWords.{arguments_of}
use Rattle.ctw_words.proofs.words.are_arguments.Given as goal

abbrev pub invariant-words : goal.invariant-words
invariant-words l = is_some (arguments_of (map string_bytes l.words)) ≡ is_some (arguments_of (map string_bytes (drop l.word-index l.words)))
