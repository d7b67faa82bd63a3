use Rattle.std.proofs.Common.{ℕ, ◌++◌, ◌∷◌, [], List, length, inr, refl, ap, ◌∙◌, arith, length-append}
use Rattle.std.proofs.lemmas.Option.{slice_get_within}
use Rattle.ctw_semantics.specs.Stores.{with_number}
use Rattle.ctw_step.specs.Shown.{shown}
use Rattle.ctw_step.specs.Stands.{numbers}
use Rattle.ctw_step.proofs.Inside.{under}
use Rattle.ctw_step.proofs.MemoryLaws.{set_met, set_done}
use Rattle.ctw_step.proofs.Settling.{fewer_words}
use Rattle.ctw_step.proofs.memory.global_set.Goals as goal

pub top-requires : goal.top-requires
top-requires c = let q = c.requires in let r = q.2 in let x = set_met r.codes q.1 (shown c.args.act.now) c.args.next r.fns r.fn c.args.store.now.storage r.place r.code r.values q.0 c.args.global r.knows r.meets in omega (arith, ap length x.are, length-append (under r.place ++ numbers x.below) (x.v.number ∷ []))

pub set_global-requires : goal.set_global-requires
set_global-requires c = let q = c.requires in let r = q.2 in let x = set_met r.codes q.1 (shown c.args.act.now) c.args.next r.fns r.fn c.args.store.now.storage r.place r.code r.values q.0 c.args.global r.knows r.meets in slice_get_within c.args.store.now.storage.globals c.args.global x.g x.found

pub shrink-requires : goal.shrink-requires
shrink-requires c = let q = c.requires in let r = q.2 in let x = set_met r.codes q.1 (shown c.args.act.now) c.args.next r.fns r.fn c.args.store.now.storage r.place r.code r.values q.0 c.args.global r.knows r.meets in omega (arith, ap length x.are, length-append (under r.place ++ numbers x.below) (x.v.number ∷ []))

pub returns-clause-does : goal.returns-clause-does
returns-clause-does c = λ index code codes fns fn h cd vs k m.
    let x = set_met codes code (shown c.args.act.now) c.args.next fns fn c.args.store.now.storage h cd vs index c.args.global k m in
    let front : List ℕ = under h ++ numbers x.below in
    set_done codes code (shown c.args.act.now) c.args.next fns fn c.args.store.now.storage h cd vs index c.args.global x (shown c.shrink.new.act) c.set_global.new.self.storage
    (c.set_global.ensures.set x.g x.found ∙ ap (with_number c.args.store.now.storage c.args.global x.g) (c.top.ensures front x.v.number x.are)) (c.shrink.ensures.cut front (x.v.number ∷ []) x.are refl)

pub returns-clause-settles : goal.returns-clause-settles
returns-clause-settles c =
    let q = c.requires in let r = q.2 in let x = set_met r.codes q.1 (shown c.args.act.now) c.args.next r.fns r.fn c.args.store.now.storage r.place r.code r.values q.0 c.args.global r.knows r.meets in
    let front : List ℕ = under r.place ++ numbers x.below in
    inr (fewer_words (shown c.args.act.now) (shown c.shrink.new.act) front c.args.next (c.shrink.ensures.cut front (x.v.number ∷ []) x.are refl)
    (omega (arith, ap length x.are, length-append front (x.v.number ∷ []))))
