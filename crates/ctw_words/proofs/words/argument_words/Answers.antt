use Rattle.std.proofs.Common.{map, string_bytes, sym}
use Rattle.ctw_script.specs.MoveValues.{argument_value}
use Rattle.ctw_words.proofs.WordsRead.{all_found}
use Rattle.ctw_words.proofs.words.argument_words.Goals as goal

pub invariant_of-result : goal.invariant_of-result
invariant_of-result c = all_found argument_value (map string_bytes c.args.words.now) c.if-not-are_arguments.ensures

pub returns : goal.returns
returns c = sym (all_found argument_value (map string_bytes c.args.words.now) c.if-not-are_arguments.ensures)
