use Rattle.ctw_pieces.proofs.pairs.code_word.Goals as goal

pub returns-in-Shape : goal.returns-in-Shape
returns-in-Shape c = rw c.in-Shape.is (c.folded_block.ensures c.args.ct)
