use Rattle.ctw_valid.proofs.lookup.row_of.Goals as goal

pub returns-in-Load : goal.returns-in-Load
returns-in-Load c = rw c.in-Load.is (c.load.ensures c.in-Load.signed c.in-Load.offset (rw c.in-Load.is at c.requires))

pub returns-in-Store : goal.returns-in-Store
returns-in-Store c = rw c.in-Store.is (c.store.ensures c.in-Store.offset (rw c.in-Store.is at c.requires).1)
