use Rattle.ctw_pieces.proofs.faults.takes_open.Goals as goal

pub returns-in-NamedType : goal.returns-in-NamedType
returns-in-NamedType c = rw c.in-NamedType.is (c.import_opens.ensures c.args.ct)
