use Rattle.std.proofs.Common.{◌≡◌, ◌+◌, ◌≤◌, length, refl, sym, ap, ◌∙◌, subst, List, All}
use Rattle.std.specs.Vec.{with_items}
use Rattle.std.proofs.lemmas.List.{with_items_is}
use Rattle.std.proofs.lemmas.Result.{on_ok_weaker}
use Rattle.ctw_store.specs.declared.page.Page.{Page}
use Rattle.ctw_store.specs.declared.store.Paged.{Paged}
use Rattle.ctw_store.specs.Pages.{all_bytes, made_in, IsPage, KeepsMadeIn, AreMadeIn}
use Rattle.ctw_store.specs.Held.{memory_of, made_of}
use Rattle.ctw_store.proofs.Holding.{memory_read, there_memory, same_here, keeps_here, ready_here, made_here_now, held_here}
use Rattle.ctw_store.proofs.store.Store.make_ready.Goals as goal

pub make_all-requires-clause-inside : goal.make_all-requires-clause-inside
make_all-requires-clause-inside c =
    let s = c.self.inside in
    let p = c.index_mut.result.now in
    let g = memory_read s.memories.items s.globals.items s.tables.items c.args.self.now c.self.view_is c.args.mem p c.requires.there c.index_mut.ensures.value in
    let t = there_memory s.memories.items s.globals.items s.tables.items c.args.self.now c.self.view_is c.args.mem p g in
    subst (λ (b : List Page). c.args.at + c.args.count ≤ length (all_bytes b)) (sym c.deref_mut.ensures.value) (c.requires.inside (memory_of p) t)

pub invariant_of-self : goal.invariant_of-self
invariant_of-self c =
    let s = c.self.inside in
    let p = c.index_mut.result.now in
    let q : Paged = record { kind = p.kind; pages = with_items p.pages c.make_all.new.pages } in
    let g = memory_read s.memories.items s.globals.items s.tables.items c.args.self.now c.self.view_is c.args.mem p c.requires.there c.index_mut.ensures.value in
    let k : q.pages.items ≡ c.make_all.new.pages = with_items_is p.pages c.make_all.new.pages (c.make_all.auto.pages ∙ c.deref_mut.ensures.len) in
    held_here s.memories.items s.globals.items s.tables.items c.args.self.now c.self.view_is c.args.mem p g q refl s.total c.self.invariant
    (subst (All IsPage) (sym k) c.make_all.ensures.whole) (ap length k ∙ c.make_all.auto.pages ∙ ap length c.deref_mut.ensures.value)

pub returns-clause-same : goal.returns-clause-same
returns-clause-same c =
    let s = c.self.inside in
    let p = c.index_mut.result.now in
    let q : Paged = record { kind = p.kind; pages = with_items p.pages c.make_all.new.pages } in
    let g = memory_read s.memories.items s.globals.items s.tables.items c.args.self.now c.self.view_is c.args.mem p c.requires.there c.index_mut.ensures.value in
    let k : q.pages.items ≡ c.make_all.new.pages = with_items_is p.pages c.make_all.new.pages (c.make_all.auto.pages ∙ c.deref_mut.ensures.len) in
    same_here s.memories.items s.globals.items s.tables.items c.args.self.now c.self.view_is c.args.mem p g q refl
    (ap all_bytes k ∙ c.make_all.ensures.bytes ∙ ap all_bytes c.deref_mut.ensures.value)

pub returns-clause-kept : goal.returns-clause-kept
returns-clause-kept c =
    let s = c.self.inside in
    let p = c.index_mut.result.now in
    let q : Paged = record { kind = p.kind; pages = with_items p.pages c.make_all.new.pages } in
    let g = memory_read s.memories.items s.globals.items s.tables.items c.args.self.now c.self.view_is c.args.mem p c.requires.there c.index_mut.ensures.value in
    let k : q.pages.items ≡ c.make_all.new.pages = with_items_is p.pages c.make_all.new.pages (c.make_all.auto.pages ∙ c.deref_mut.ensures.len) in
    let w = subst (λ (b : List Page). KeepsMadeIn (made_in b) (made_of q)) c.deref_mut.ensures.value
    (subst (λ (b : List Page). KeepsMadeIn (made_in c.deref_mut.result.now) (made_in b)) (sym k) c.make_all.ensures.kept) in
    keeps_here s.memories.items s.globals.items s.tables.items c.args.self.now c.self.view_is c.args.mem p g q refl w

pub returns-clause-made : goal.returns-clause-made
returns-clause-made c =
    let s = c.self.inside in
    let p = c.index_mut.result.now in
    let q : Paged = record { kind = p.kind; pages = with_items p.pages c.make_all.new.pages } in
    let g = memory_read s.memories.items s.globals.items s.tables.items c.args.self.now c.self.view_is c.args.mem p c.requires.there c.index_mut.ensures.value in
    let k : q.pages.items ≡ c.make_all.new.pages = with_items_is p.pages c.make_all.new.pages (c.make_all.auto.pages ∙ c.deref_mut.ensures.len) in
    on_ok_weaker c.make_all.result (λ o. made_here_now s.memories.items s.globals.items s.tables.items c.args.self.now c.self.view_is c.args.mem p g q refl c.args.at c.args.count
    (subst (λ (b : List Page). AreMadeIn (made_in b) c.args.at c.args.count) (sym k) o)) c.make_all.ensures.made

pub returns-clause-ready : goal.returns-clause-ready
returns-clause-ready c = λ a.
    let s = c.self.inside in
    let p = c.index_mut.result.now in
    let g = memory_read s.memories.items s.globals.items s.tables.items c.args.self.now c.self.view_is c.args.mem p c.requires.there c.index_mut.ensures.value in
    let r = ready_here s.memories.items s.globals.items s.tables.items c.args.self.now c.self.view_is c.args.mem p g c.args.at c.args.count a in
    c.make_all.ensures.ready (subst (λ (b : List Page). AreMadeIn (made_in b) c.args.at c.args.count) (sym c.deref_mut.ensures.value) r)
