use Rattle.ctw_pieces.proofs.tokens.code_key.Goals as goal

pub returns-in-Shape : goal.returns-in-Shape
returns-in-Shape c = rw c.in-Shape.is (c.plain_block.ensures c.args.ct)
