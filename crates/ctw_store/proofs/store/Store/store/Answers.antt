use Rattle.std.proofs.Common.{◌≡◌, length, refl, sym, ap, ◌∙◌, subst, List, All}
use Rattle.std.specs.Vec.{with_items}
use Rattle.std.proofs.lemmas.List.{with_items_is}
use Rattle.ctw_store.specs.declared.page.Page.{Page}
use Rattle.ctw_store.specs.declared.store.Paged.{Paged}
use Rattle.ctw_store.specs.Pages.{all_bytes, made_in, IsPage, KeepsMadeIn, AreMadeIn}
use Rattle.ctw_store.specs.Held.{Writes, made_of}
use Rattle.ctw_store.proofs.Holding.{memory_read, stores_here, keeps_here, ready_here, held_here}
use Rattle.ctw_store.proofs.store.Store.store.Goals as goal

pub invariant_of-self : goal.invariant_of-self
invariant_of-self c =
    let s = c.self.inside in
    let p = c.index_mut.result.now in
    let q : Paged = record { kind = p.kind; pages = with_items p.pages c.write_inside.new.pages } in
    let g = memory_read s.memories.items s.globals.items s.tables.items c.args.self.now c.self.view_is c.args.mem p c.requires.there c.index_mut.ensures.value in
    let k : q.pages.items ≡ c.write_inside.new.pages = with_items_is p.pages c.write_inside.new.pages (c.write_inside.auto.pages ∙ c.deref_mut.ensures.len) in
    held_here s.memories.items s.globals.items s.tables.items c.args.self.now c.self.view_is c.args.mem p g q refl s.total c.self.invariant
    (subst (All IsPage) (sym k) c.write_inside.ensures.whole) (ap length k ∙ c.write_inside.auto.pages ∙ ap length c.deref_mut.ensures.value)

pub returns-clause-answer : goal.returns-clause-answer
returns-clause-answer c =
    let s = c.self.inside in
    let p = c.index_mut.result.now in
    let q : Paged = record { kind = p.kind; pages = with_items p.pages c.write_inside.new.pages } in
    let g = memory_read s.memories.items s.globals.items s.tables.items c.args.self.now c.self.view_is c.args.mem p c.requires.there c.index_mut.ensures.value in
    let k : q.pages.items ≡ c.write_inside.new.pages = with_items_is p.pages c.write_inside.new.pages (c.write_inside.auto.pages ∙ c.deref_mut.ensures.len) in
    let w = subst (λ (b : List Page). Writes (all_bytes b) c.args.at c.args.bytes c.args.value c.write_inside.result (all_bytes q.pages.items)) c.deref_mut.ensures.value
    (subst (λ (b : List Page). Writes (all_bytes c.deref_mut.result.now) c.args.at c.args.bytes c.args.value c.write_inside.result (all_bytes b)) (sym k) c.write_inside.ensures.written) in
    stores_here s.memories.items s.globals.items s.tables.items c.args.self.now c.self.view_is c.args.mem p g q refl c.args.at c.args.bytes c.args.value c.write_inside.result w

pub returns-clause-kept : goal.returns-clause-kept
returns-clause-kept c =
    let s = c.self.inside in
    let p = c.index_mut.result.now in
    let q : Paged = record { kind = p.kind; pages = with_items p.pages c.write_inside.new.pages } in
    let g = memory_read s.memories.items s.globals.items s.tables.items c.args.self.now c.self.view_is c.args.mem p c.requires.there c.index_mut.ensures.value in
    let k : q.pages.items ≡ c.write_inside.new.pages = with_items_is p.pages c.write_inside.new.pages (c.write_inside.auto.pages ∙ c.deref_mut.ensures.len) in
    let w = subst (λ (b : List Page). KeepsMadeIn (made_in b) (made_of q)) c.deref_mut.ensures.value
    (subst (λ (b : List Page). KeepsMadeIn (made_in c.deref_mut.result.now) (made_in b)) (sym k) c.write_inside.ensures.kept) in
    keeps_here s.memories.items s.globals.items s.tables.items c.args.self.now c.self.view_is c.args.mem p g q refl w

pub returns-clause-ready : goal.returns-clause-ready
returns-clause-ready c = λ a.
    let s = c.self.inside in
    let p = c.index_mut.result.now in
    let g = memory_read s.memories.items s.globals.items s.tables.items c.args.self.now c.self.view_is c.args.mem p c.requires.there c.index_mut.ensures.value in
    let r = ready_here s.memories.items s.globals.items s.tables.items c.args.self.now c.self.view_is c.args.mem p g c.args.at c.args.bytes a in
    c.write_inside.ensures.ready (subst (λ (b : List Page). AreMadeIn (made_in b) c.args.at c.args.bytes) (sym c.deref_mut.ensures.value) r)
