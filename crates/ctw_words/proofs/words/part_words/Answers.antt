use Rattle.std.proofs.Common.{length, map, string_bytes, sym}
use Rattle.ctw_words.proofs.PartsNamed.{some_words, are_parts}
use Rattle.ctw_words.proofs.WordsRead.{all_found}
use Rattle.ctw_words.specs.NamedFiles.{named_file}
use Rattle.ctw_words.proofs.words.part_words.Goals as goal

pub invariant_of-result : goal.invariant_of-result
invariant_of-result c = (some_words (length c.args.words.now) c.if-is_empty.ensures, c.if-words-gt-MOST_PARTS.false, all_found named_file (map string_bytes c.args.words.now) c.if-not-are_named.ensures)

pub returns : goal.returns
returns c =
    sym (are_parts string_bytes c.args.words.now (some_words (length c.args.words.now) c.if-is_empty.ensures) c.if-words-gt-MOST_PARTS.false (all_found named_file (map string_bytes c.args.words.now) c.if-not-are_named.ensures))
