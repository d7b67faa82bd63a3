use Rattle.std.proofs.Common.{is_some, string_bytes, sym, ap, ◌∙◌}
use Rattle.ctw_script.specs.MoveValues.{argument_value}
use Rattle.ctw_words.proofs.WordsRead.{one_none}
use Rattle.ctw_words.proofs.words.are_arguments.Goals as goal

pub returns-then-is_none : goal.returns-then-is_none
returns-then-is_none c =
    sym (c.words.invariant ∙ one_none argument_value string_bytes c.args.words.now c.words.word-index c.word-item.result c.words-test.true c.word-item.is
    (ap is_some (ap argument_value (sym c.as_str.ensures.value) ∙ sym c.argument.ensures.value) ∙ c.if-is_none.ensures))
