use Rattle.std.proofs.Common.{◌≡◌, ◌*◌, length, sym, ap, ◌∙◌}
use Rattle.ctw_semantics.specs.Stores.{Memory, pages}
use Rattle.ctw_store.specs.Pages.{all_bytes}
use Rattle.ctw_store.proofs.Pages.{bytes_long}
use Rattle.ctw_store.proofs.Holding.{memory_read, memory_there, whole_here, pages_are}
use Rattle.ctw_store.proofs.store.Store.size.Goals as goal

pub returns-clause-size : goal.returns-clause-size
returns-clause-size c = λ m e.
    let s = c.self.inside in
    let p = c.index.result.now in
    let g = memory_read s.memories.items s.globals.items s.tables.items c.args.self.now c.self.view_is c.args.mem p c.requires c.index.ensures in
    let w = whole_here s.memories.items s.globals.items s.tables.items c.args.self.now c.self.view_is c.args.mem p g s.total c.self.invariant in
    c.len.ensures ∙ p.pages.ok.0 ∙ sym (pages_are p w.pages) ∙ ap pages (memory_there s.memories.items s.globals.items s.tables.items c.args.self.now c.self.view_is c.args.mem p g m e)

pub returns-clause-whole : goal.returns-clause-whole
returns-clause-whole c = λ m e.
    let s = c.self.inside in
    let p = c.index.result.now in
    let g = memory_read s.memories.items s.globals.items s.tables.items c.args.self.now c.self.view_is c.args.mem p c.requires c.index.ensures in
    let w = whole_here s.memories.items s.globals.items s.tables.items c.args.self.now c.self.view_is c.args.mem p g s.total c.self.invariant in
    let n : c.len.result ≡ length p.pages.items = c.len.ensures ∙ p.pages.ok.0 in
    let f : all_bytes p.pages.items ≡ m.bytes = ap (λ (m : Memory). m.bytes) (memory_there s.memories.items s.globals.items s.tables.items c.args.self.now c.self.view_is c.args.mem p g m e) in
    sym (ap length f) ∙ bytes_long p.pages.items w.pages ∙ ap (λ n. 65536 * n) (sym n)
