use Rattle.std.proofs.Common.{string_bytes, sym, ap, ◌∙◌}
use Rattle.ctw_inputs.specs.Parts.{part_named}
use Rattle.ctw_words.specs.NamedFiles.{named_file}
use Rattle.ctw_words.proofs.WordsRead.{one_bad}
use Rattle.ctw_words.proofs.words.are_named.Goals as goal

pub returns-then-is_none : goal.returns-then-is_none
returns-then-is_none c =
    sym (c.words.invariant ∙ one_bad named_file string_bytes c.args.words.now part_named c.part_file.result c.words.word-index c.word-item.result c.words-test.true c.word-item.is (c.part_file.ensures ∙ ap named_file c.as_str.ensures.value) c.if-is_none.ensures)
