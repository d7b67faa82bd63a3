use Rattle.std.proofs.Common.{refl}
use Rattle.ctw_store.specs.declared.store.Cell.{Cell}
use Rattle.ctw_store.proofs.Holding.{global_set}
use Rattle.ctw_store.proofs.store.Store.set_global.Goals as goal

pub returns-clause-set : goal.returns-clause-set
returns-clause-set c = λ x e.
    let s = c.self.inside in
    let p = c.index_mut.result.now in
    let q : Cell = record { kind = p.kind; value = c.args.value } in
    global_set s.memories.items s.globals.items s.tables.items c.args.self.now c.self.view_is c.args.g p q x c.requires c.index_mut.ensures.value refl e
