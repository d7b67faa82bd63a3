use Rattle.std.proofs.Common.{◌<◌, Some, refl, sym, subst}
use Rattle.std.specs.Vec.{with_item}
use Rattle.ctw_store.specs.declared.store.Entries.{Entries}
use Rattle.ctw_store.specs.Held.{table_of}
use Rattle.ctw_store.proofs.Holding.{there_table, entry_set}
use Rattle.ctw_store.proofs.store.Store.set_entry.Goals as goal

pub index_mut-requires-2 : goal.index_mut-requires-2
index_mut-requires-2 c =
    let s = c.self.inside in
    let p = c.index_mut.result.now in
    let t = there_table s.memories.items s.globals.items s.tables.items c.args.self.now c.self.view_is c.args.table p p c.requires.there c.index_mut.ensures.value in
    subst (λ n. c.args.i < n) (sym p.entries.ok.0) (c.requires.inside (table_of p) t)

pub returns-clause-set : goal.returns-clause-set
returns-clause-set c = λ t e.
    let s = c.self.inside in
    let p = c.index_mut.result.now in
    let q : Entries = record { limits = p.limits; entries = with_item p.entries c.args.i (Some c.args.f) } in
    entry_set s.memories.items s.globals.items s.tables.items c.args.self.now c.self.view_is c.args.table p q c.requires.there c.index_mut.ensures.value t c.args.i (Some c.args.f) refl refl e
