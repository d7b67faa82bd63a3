use Rattle.ctw_pieces.proofs.tokens.tail_token.Goals as goal

pub returns-in-MayRepeat : goal.returns-in-MayRepeat
returns-in-MayRepeat c = rw c.in-MayRepeat.is (c.repeat_token.ensures c.args.ct)

pub returns-in-MayLabel : goal.returns-in-MayLabel
returns-in-MayLabel c = rw c.in-MayLabel.is (c.label_token.ensures c.args.ct)

pub returns-in-MayOffset : goal.returns-in-MayOffset
returns-in-MayOffset c = rw c.in-MayOffset.is (c.offset_token.ensures c.args.ct)

pub returns-in-MayAlign : goal.returns-in-MayAlign
returns-in-MayAlign c = rw c.in-MayAlign.is (c.align_token.ensures c.args.ct)
