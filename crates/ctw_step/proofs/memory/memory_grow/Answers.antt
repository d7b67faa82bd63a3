use Rattle.std.proofs.Common.{ℕ, ◌++◌, ◌∷◌, [], List, length, inr, refl, ap, arith, length-append}
use Rattle.ctw_step.specs.Shown.{shown}
use Rattle.ctw_step.specs.Stands.{numbers}
use Rattle.ctw_step.proofs.Inside.{under}
use Rattle.ctw_step.proofs.MemoryLaws.{grow_met, grow_done, memory_within}
use Rattle.ctw_step.proofs.Room.{if_err}
use Rattle.ctw_step.proofs.Settling.{fewer_words}
use Rattle.ctw_step.proofs.memory.memory_grow.Goals as goal

pub top_small-pages-requires : goal.top_small-pages-requires
top_small-pages-requires c = let q = c.requires in let r = q.1 in let x = grow_met r.codes q.0 (shown c.args.act.now) c.args.next r.fns r.fn c.args.store.now.storage r.place r.code r.values c.args.mem r.knows r.meets in (_, x.v.number, x.are, x.small)

pub grown_by-requires : goal.grown_by-requires
grown_by-requires c = let q = c.requires in let r = q.1 in let x = grow_met r.codes q.0 (shown c.args.act.now) c.args.next r.fns r.fn c.args.store.now.storage r.place r.code r.values c.args.mem r.knows r.meets in memory_within c.args.store.now.storage c.args.mem x.m x.found

pub returns-in_err-number-clause-kept : goal.returns-in_err-number-clause-kept
returns-in_err-number-clause-kept c =
    let q = c.requires in let r = q.1 in let x = grow_met r.codes q.0 (shown c.args.act.now) c.args.next r.fns r.fn c.args.store.now.storage r.place r.code r.values c.args.mem r.knows r.meets in
    if_err c.from_residual.result _ (λ e. (refl, c.in_err-number.ensures.grew x.m x.found))

pub set_top-requires : goal.set_top-requires
set_top-requires c =
    let q = c.requires in let r = q.1 in let x = grow_met r.codes q.0 (shown c.args.act.now) c.args.next r.fns r.fn c.args.store.now.storage r.place r.code r.values c.args.mem r.knows r.meets in
    omega (arith, ap length x.are, length-append (under r.place ++ numbers x.below) (x.v.number ∷ []))

pub returns-clause-does : goal.returns-clause-does
returns-clause-does c = λ code codes fns fn h cd vs k m.
    let x = grow_met codes code (shown c.args.act.now) c.args.next fns fn c.args.store.now.storage h cd vs c.args.mem k m in
    let front : List ℕ = under h ++ numbers x.below in
    grow_done codes code (shown c.args.act.now) c.args.next fns fn c.args.store.now.storage h cd vs c.args.mem x c.top_small-pages.result c.in_ok-number.number (shown c.set_top.new.act) c.grown_by.new.store.storage (c.top_small-pages.ensures front x.v.number x.are) (c.in_ok-number.ensures.grew x.m x.found) (c.set_top.ensures.set front x.v.number x.are)

pub returns-clause-settles : goal.returns-clause-settles
returns-clause-settles c =
    let q = c.requires in let r = q.1 in let x = grow_met r.codes q.0 (shown c.args.act.now) c.args.next r.fns r.fn c.args.store.now.storage r.place r.code r.values c.args.mem r.knows r.meets in
    let front : List ℕ = under r.place ++ numbers x.below in
    inr (fewer_words (shown c.args.act.now) (shown c.set_top.new.act) (front ++ c.in_ok-number.number ∷ []) c.args.next (c.set_top.ensures.set front x.v.number x.are)
    (omega (arith, ap length x.are, length-append front (x.v.number ∷ []), length-append front (c.in_ok-number.number ∷ []))))
