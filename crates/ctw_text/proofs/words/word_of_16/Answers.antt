use Rattle.std.proofs.Common.{◌∙◌}
use Rattle.ctw_text.specs.Words.{words}
use Rattle.ctw_text.proofs.Lengths.{by_length}
use Rattle.ctw_text.proofs.words.word_of_16.Goals as goal

pub returns : goal.returns
unfolding words
returns c =
    let e = rw c.requires at c.find.ensures in
    e ∙ by_length 16 c.args.word.now c.requires
