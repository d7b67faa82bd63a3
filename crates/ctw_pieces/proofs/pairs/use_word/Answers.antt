use Rattle.ctw_pieces.proofs.pairs.use_word.Goals as goal

pub returns-in-Group : goal.returns-in-Group
returns-in-Group c = rw c.in-Group.is (c.group_word.ensures c.args.at)
