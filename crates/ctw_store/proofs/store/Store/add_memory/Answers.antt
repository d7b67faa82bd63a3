use Rattle.std.proofs.Common.{◌≡◌, ◌+◌, ◌++◌, ◌∷◌, [], List, sym, ap, ◌∙◌, subst, map, refl}
use Rattle.ctw_ops.specs.declared.types.Label.{Label}
use Rattle.ctw_ops.specs.Types.{MemoryType}
use Rattle.ctw_store.specs.declared.store.Paged.{Paged}
use Rattle.ctw_store.specs.Made.{KeepsMade}
use Rattle.ctw_store.specs.Held.{storage_of, made_of, AreHeld}
use Rattle.ctw_store.proofs.Pages.{absents}
use Rattle.ctw_store.proofs.Holding.{memory_added, held_added, keeps_added, count_memories}
use Rattle.ctw_store.proofs.store.Store.add_memory.Goals as goal

pub invariant_of-self-2 : goal.invariant_of-self-2
invariant_of-self-2 c =
    let s = c.self.inside in
    let q : Paged = record { kind = c.args.t; pages = c.extend.new.pages } in
    let z : q.pages.items ≡ absents c.args.t.limits.min = c.in_ok-extend.ensures.ok ∙ ap (λ l. l ++ absents c.t.inside.limits.min) c.new-pages.ensures.items ∙ ap (λ (t : MemoryType Label). absents t.limits.min) c.t.view_is in
    let a = held_added s.memories.items s.globals.items s.tables.items c.args.self.now c.self.view_is q c.args.t refl z s.total c.self.invariant c.requires.room in
    subst (λ (l : List Paged). AreHeld l (s.total + c.t-2.inside.limits.min)) (sym c.in_ok-push.ensures.items)
    (subst (λ (t : MemoryType Label). AreHeld (s.memories.items ++ q ∷ []) (s.total + t.limits.min)) (sym c.t-2.view_is) a)

pub returns-clause-answer : goal.returns-clause-answer
returns-clause-answer c =
    let s = c.self.inside in
    let q : Paged = record { kind = c.args.t; pages = c.extend.new.pages } in
    let z : q.pages.items ≡ absents c.args.t.limits.min = c.in_ok-extend.ensures.ok ∙ ap (λ l. l ++ absents c.t.inside.limits.min) c.new-pages.ensures.items ∙ ap (λ (t : MemoryType Label). absents t.limits.min) c.t.view_is in
    let a = memory_added s.memories.items s.globals.items s.tables.items c.args.self.now c.self.view_is q c.args.t refl z in (
      c.len-number.ensures ∙ s.memories.ok.0 ∙ count_memories s.memories.items s.globals.items s.tables.items c.args.self.now c.self.view_is,
      ap (λ (l : List Paged). storage_of l s.globals.items s.tables.items) c.in_ok-push.ensures.items ∙ a,
    )

pub returns-clause-kept : goal.returns-clause-kept
returns-clause-kept c =
    let s = c.self.inside in
    let q : Paged = record { kind = c.args.t; pages = c.extend.new.pages } in
    subst (λ (l : List Paged). KeepsMade c.args.self.now.made (map made_of l)) (sym c.in_ok-push.ensures.items)
    (keeps_added s.memories.items s.globals.items s.tables.items c.args.self.now c.self.view_is q)
