use Rattle.std.proofs.Common.{◌≡◌, map, take, filter_map, string_bytes}
use Rattle.ctw_inputs.specs.Parts.{part_named}
use Rattle.ctw_words.specs.NamedFiles.{named_file}
use Rattle.ctw_words.proofs.words.part_files.Given as goal

abbrev pub invariant-words : goal.invariant-words
invariant-words l = map part_named l.parts.items ≡ filter_map named_file (map string_bytes (take l.word-index l.words))
