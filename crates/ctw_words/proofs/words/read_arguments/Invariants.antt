use Rattle.std.proofs.Common.{◌≡◌, map, take, filter_map, string_bytes}
use Rattle.ctw_script.specs.MoveValues.{argument_value}
use Rattle.ctw_words.proofs.words.read_arguments.Given as goal

abbrev pub invariant-words : goal.invariant-words
invariant-words l = l.arguments.items ≡ filter_map argument_value (map string_bytes (take l.word-index l.words))
