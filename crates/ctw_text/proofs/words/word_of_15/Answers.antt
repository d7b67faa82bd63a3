use Rattle.std.proofs.Common.{◌∙◌}
use Rattle.ctw_text.specs.Words.{words}
use Rattle.ctw_text.proofs.Lengths.{by_length}
use Rattle.ctw_text.proofs.words.word_of_15.Goals as goal

pub returns : goal.returns
unfolding words
returns c = c.find.ensures ∙ by_length 15 c.args.word.now c.requires
