use Rattle.std.proofs.Common.{string_bytes, Some, None, append-nil, sym, ap, ◌∙◌}
use Rattle.ctw_script.specs.MoveValues.{argument_value}
use Rattle.ctw_words.proofs.WordsRead.{found_more, found_all}
use Rattle.ctw_words.proofs.words.read_arguments.Goals as goal

pub words-preserved-in_default : goal.words-preserved-in_default
words-preserved-in_default c =
    found_more argument_value string_bytes c.args.words.now c.words.word-index c.word-item.result None c.words.arguments.items c.words.arguments.items c.words-test.true c.word-item.is
    (ap argument_value (sym c.as_str.ensures.value) ∙ sym c.argument.ensures.value ∙ c.in_default.is) c.words.invariant (sym (append-nil c.words.arguments.items))

pub words-preserved : goal.words-preserved
words-preserved c =
    found_more argument_value string_bytes c.args.words.now c.words.word-index c.word-item.result (Some c.in-Some.next) c.words.arguments.items c.push.new.self.items c.words-test.true c.word-item.is
    (ap argument_value (sym c.as_str.ensures.value) ∙ sym c.argument.ensures.value ∙ c.in-Some.is) c.words.invariant c.in_ok-push.ensures.items

pub returns : goal.returns
returns c = found_all argument_value string_bytes c.args.words.now c.words.word-index c.words.arguments.items c.words-test.false c.words.invariant
