use Rattle.std.proofs.Common.{◌≡◌, ◌+◌, ◌++◌, true, List, All, length, refl, sym, ap, ◌∙◌, subst, arith}
use Rattle.std.proofs.lemmas.Result.{err_from_is_err_and}
use Rattle.std.proofs.lemmas.List.{length-append, length-replicate}
use Rattle.ctw_semantics.specs.Stores.{pages, most_pages_of, may_grow}
use Rattle.ctw_store.specs.declared.page.Page.{Page}
use Rattle.ctw_store.specs.declared.page.Page.TheVariants.{Absent}
use Rattle.ctw_store.specs.declared.store.Paged.{Paged}
use Rattle.ctw_store.specs.Pages.{IsPage, all_bytes, made_in, KeepsMadeIn}
use Rattle.ctw_store.specs.Held.{made_of, has_room}
use Rattle.ctw_store.proofs.Pages.{absents, whole_extended}
use Rattle.ctw_store.proofs.Holding.{memory_read, memory_there, whole_here, room_here, room_short, pages_are, same_here, grown_here, keeps_here, keeps_grown, held_here, held_grown}
use Rattle.ctw_store.proofs.store.Store.grow.Goals as goal

pub returns-then-not-may_add-clause-answer : goal.returns-then-not-may_add-clause-answer
returns-then-not-may_add-clause-answer c = λ m e.
    let s = c.self.inside in
    let p = c.index-memory.result.now in
    let g = memory_read s.memories.items s.globals.items s.tables.items c.args.self.now c.self.view_is c.args.mem p c.requires.there c.index-memory.ensures in
    let r = room_here s.memories.items s.globals.items s.tables.items c.args.self.now c.self.view_is c.args.mem p g m s.total c.most.result c.args.pages e c.self.invariant c.most.ensures.value in
    let n : c.len-before.result ≡ length p.pages.items = c.len-before.ensures ∙ p.pages.ok.0 in
    (sym r ∙ ap (λ n. has_room n c.most.result s.total c.args.pages) (sym n) ∙ sym c.may_add.ensures ∙ c.if-not-may_add.true, refl)

pub invariant_of-self : goal.invariant_of-self
invariant_of-self c =
    let s = c.self.inside in
    let p = c.index_mut.result.now in
    let q : Paged = record { kind = p.kind; pages = c.extend.new.pages } in
    let g = memory_read s.memories.items s.globals.items s.tables.items c.args.self.now c.self.view_is c.args.mem p c.requires.there c.index_mut.ensures.value in
    let w = whole_here s.memories.items s.globals.items s.tables.items c.args.self.now c.self.view_is c.args.mem p g s.total c.self.invariant in
    held_here s.memories.items s.globals.items s.tables.items c.args.self.now c.self.view_is c.args.mem p g q refl s.total c.self.invariant
    (subst (All IsPage) (sym c.in_err-extend.ensures.err) w.pages) (ap length c.in_err-extend.ensures.err)

pub returns-in_err-extend-clause-answer : goal.returns-in_err-extend-clause-answer
returns-in_err-extend-clause-answer c = λ m e.
    let s = c.self.inside in
    let p = c.index_mut.result.now in
    let q : Paged = record { kind = p.kind; pages = c.extend.new.pages } in
    let g = memory_read s.memories.items s.globals.items s.tables.items c.args.self.now c.self.view_is c.args.mem p c.requires.there c.index_mut.ensures.value in
    let g' = memory_read s.memories.items s.globals.items s.tables.items c.args.self.now c.self.view_is c.args.mem c.index-memory.result.now c.requires.there c.index-memory.ensures in
    let same : c.index-memory.result.now ≡ p = cc in
    let n : c.len-before.result ≡ length p.pages.items = c.len-before.ensures ∙ c.index-memory.result.now.pages.ok.0 ∙ ap (λ (p : Paged). length p.pages.items) same in
    let r = room_here s.memories.items s.globals.items s.tables.items c.args.self.now c.self.view_is c.args.mem p g m s.total c.most.result c.args.pages e c.self.invariant (c.most.ensures.value ∙ ap (λ (p : Paged). most_pages_of p.kind) same) in
    let room : may_grow c.args.self.now.storage m c.args.pages ≡ true = sym r ∙ ap (λ n. has_room n c.most.result s.total c.args.pages) (sym n) ∙ sym c.may_add.ensures ∙ c.if-not-may_add.false in
    let b = same_here s.memories.items s.globals.items s.tables.items c.args.self.now c.self.view_is c.args.mem p g q refl (ap all_bytes c.in_err-extend.ensures.err) in
    let x = err_from_is_err_and c.from_residual.result c.from_residual.ensures.1 in
    rw x.1 (room, b)

pub returns-in_err-extend-clause-kept : goal.returns-in_err-extend-clause-kept
returns-in_err-extend-clause-kept c =
    let s = c.self.inside in
    let p = c.index_mut.result.now in
    let q : Paged = record { kind = p.kind; pages = c.extend.new.pages } in
    let g = memory_read s.memories.items s.globals.items s.tables.items c.args.self.now c.self.view_is c.args.mem p c.requires.there c.index_mut.ensures.value in
    keeps_here s.memories.items s.globals.items s.tables.items c.args.self.now c.self.view_is c.args.mem p g q refl
    (subst (λ (l : List Page). KeepsMadeIn (made_of p) (made_in l)) (sym c.in_err-extend.ensures.err) (λ page k. k))

pub invariant_of-self-2 : goal.invariant_of-self-2
invariant_of-self-2 c =
    let s = c.self.inside in
    let p = c.index_mut.result.now in
    let q : Paged = record { kind = p.kind; pages = c.extend.new.pages } in
    let g = memory_read s.memories.items s.globals.items s.tables.items c.args.self.now c.self.view_is c.args.mem p c.requires.there c.index_mut.ensures.value in
    let g' = memory_read s.memories.items s.globals.items s.tables.items c.args.self.now c.self.view_is c.args.mem c.index-memory.result.now c.requires.there c.index-memory.ensures in
    let same : c.index-memory.result.now ≡ p = cc in
    let n : c.len-before.result ≡ length p.pages.items = c.len-before.ensures ∙ c.index-memory.result.now.pages.ok.0 ∙ ap (λ (p : Paged). length p.pages.items) same in
    let w = whole_here s.memories.items s.globals.items s.tables.items c.args.self.now c.self.view_is c.args.mem p g s.total c.self.invariant in
    let k = room_short c.len-before.result c.most.result s.total c.args.pages (sym c.may_add.ensures ∙ c.if-not-may_add.false) in
    let a : q.pages.items ≡ p.pages.items ++ absents c.args.pages = c.in_ok-extend.ensures.ok in
    let l : length q.pages.items ≡ length p.pages.items + c.args.pages = ap length a ∙ length-append p.pages.items (absents c.args.pages) ∙ ap (λ n. length p.pages.items + n) (length-replicate c.args.pages Absent) in
    held_grown s.memories.items s.globals.items s.tables.items c.args.self.now c.self.view_is c.args.mem p g q refl s.total c.args.pages c.self.invariant
    (subst (All IsPage) (sym a) (whole_extended p.pages.items c.args.pages w.pages)) l (omega arith) k.1

pub returns-clause-answer : goal.returns-clause-answer
returns-clause-answer c = λ m e.
    let s = c.self.inside in
    let p = c.index_mut.result.now in
    let q : Paged = record { kind = p.kind; pages = c.extend.new.pages } in
    let g = memory_read s.memories.items s.globals.items s.tables.items c.args.self.now c.self.view_is c.args.mem p c.requires.there c.index_mut.ensures.value in
    let g' = memory_read s.memories.items s.globals.items s.tables.items c.args.self.now c.self.view_is c.args.mem c.index-memory.result.now c.requires.there c.index-memory.ensures in
    let same : c.index-memory.result.now ≡ p = cc in
    let n : c.len-before.result ≡ length p.pages.items = c.len-before.ensures ∙ c.index-memory.result.now.pages.ok.0 ∙ ap (λ (p : Paged). length p.pages.items) same in
    let r = room_here s.memories.items s.globals.items s.tables.items c.args.self.now c.self.view_is c.args.mem p g m s.total c.most.result c.args.pages e c.self.invariant (c.most.ensures.value ∙ ap (λ (p : Paged). most_pages_of p.kind) same) in
    let room : may_grow c.args.self.now.storage m c.args.pages ≡ true = sym r ∙ ap (λ n. has_room n c.most.result s.total c.args.pages) (sym n) ∙ sym c.may_add.ensures ∙ c.if-not-may_add.false in
    let w = whole_here s.memories.items s.globals.items s.tables.items c.args.self.now c.self.view_is c.args.mem p g s.total c.self.invariant in
    let f = memory_there s.memories.items s.globals.items s.tables.items c.args.self.now c.self.view_is c.args.mem p g m e in (
      room,
      n ∙ sym (pages_are p w.pages) ∙ ap pages f,
      grown_here s.memories.items s.globals.items s.tables.items c.args.self.now c.self.view_is c.args.mem p g q refl c.args.pages m e c.in_ok-extend.ensures.ok,
    )

pub returns-clause-kept : goal.returns-clause-kept
returns-clause-kept c =
    let s = c.self.inside in
    let p = c.index_mut.result.now in
    let q : Paged = record { kind = p.kind; pages = c.extend.new.pages } in
    let g = memory_read s.memories.items s.globals.items s.tables.items c.args.self.now c.self.view_is c.args.mem p c.requires.there c.index_mut.ensures.value in
    keeps_grown s.memories.items s.globals.items s.tables.items c.args.self.now c.self.view_is c.args.mem p g q refl c.args.pages c.in_ok-extend.ensures.ok
