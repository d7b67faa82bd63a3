use Rattle.std.proofs.Common.{◌≡◌, ℕ, ◌+◌, ◌++◌, ◌∷◌, [], List, length, inr, Some, Err, refl, sym, ap, ap₂, ◌∙◌, arith, subst, append_assoc, length-append}
use Rattle.ctw_script.specs.declared.event.Event.TheVariants as Events
use Rattle.ctw_script.specs.declared.trap.TrapCode.TheVariants.{MemoryBounds}
use Rattle.ctw_store.specs.Answers.{Stores}
use Rattle.ctw_store.specs.declared.fault.StoreFault.{StoreFault}
use Rattle.ctw_semantics.specs.Stores.{written_at, bytes_of_number, with_bytes}
use Rattle.ctw_step.specs.declared.running.Stepped.TheVariants as Steppeds
use Rattle.ctw_step.specs.Shown.{shown}
use Rattle.ctw_step.specs.Stands.{numbers}
use Rattle.ctw_step.proofs.Inside.{under}
use Rattle.ctw_step.proofs.MemoryLaws.{store_met, store_done, memory_within}
use Rattle.ctw_step.proofs.Settling.{fewer_words}
use Rattle.ctw_step.proofs.memory.store_number.Goals as goal

pub top-number-requires : goal.top-number-requires
top-number-requires c = let q = c.requires.runs in let r = q.4 in let x = store_met r.codes q.3 (shown c.args.act.now) c.args.next r.fns r.fn c.args.store.now.storage r.place r.code r.values c.args.mem c.args.width q.0 c.args.bytes q.1 q.2 c.args.offset r.knows r.meets in omega (arith, ap length x.are, length-append (under r.place ++ numbers x.below) (x.v.number ∷ x.w'.number ∷ []))

pub second_small-requires : goal.second_small-requires
second_small-requires c = let q = c.requires.runs in let r = q.4 in let x = store_met r.codes q.3 (shown c.args.act.now) c.args.next r.fns r.fn c.args.store.now.storage r.place r.code r.values c.args.mem c.args.width q.0 c.args.bytes q.1 q.2 c.args.offset r.knows r.meets in (_, x.v.number, x.w'.number, x.are, x.small)

pub store-requires-clause-there : goal.store-requires-clause-there
store-requires-clause-there c = let q = c.requires.runs in let r = q.4 in let x = store_met r.codes q.3 (shown c.args.act.now) c.args.next r.fns r.fn c.args.store.now.storage r.place r.code r.values c.args.mem c.args.width q.0 c.args.bytes q.1 q.2 c.args.offset r.knows r.meets in memory_within c.args.store.now.storage c.args.mem x.m x.found

pub shrink-requires : goal.shrink-requires
shrink-requires c = let q = c.requires.runs in let r = q.4 in let x = store_met r.codes q.3 (shown c.args.act.now) c.args.next r.fns r.fn c.args.store.now.storage r.place r.code r.values c.args.mem c.args.width q.0 c.args.bytes q.1 q.2 c.args.offset r.knows r.meets in omega (arith, ap length x.are, length-append (under r.place ++ numbers x.below) (x.v.number ∷ x.w'.number ∷ []))

pub returns-in-Ok-clause-does : goal.returns-in-Ok-clause-does
returns-in-Ok-clause-does c = λ l signed align code codes fns fn h cd vs k m.
    let x = store_met codes code (shown c.args.act.now) c.args.next fns fn c.args.store.now.storage h cd vs c.args.mem c.args.width l c.args.bytes signed align c.args.offset k m in
    let front : List ℕ = under h ++ numbers x.below in
    let t : c.second_small.result ≡ x.v.number = c.second_small.ensures front x.v.number x.w'.number x.are in
    let n : c.top-number.result ≡ x.w'.number = c.top-number.ensures (front ++ x.v.number ∷ []) x.w'.number (x.are ∙ sym (append_assoc front (x.v.number ∷ []) (x.w'.number ∷ []))) in
    let o = c.in-Ok.ensures.answer x.m x.found in
    store_done codes code (shown c.args.act.now) c.args.next fns fn c.args.store.now.storage h cd vs c.args.mem c.args.width l c.args.bytes align c.args.offset x (Steppeds.Went (Some (Events.Store c.args.mem (c.second_small.result + c.args.offset) c.args.bytes))) (shown c.shrink.new.act) c.store.new.self.storage (record {
      inside = λ g. (
        ap (λ n. Steppeds.Went (Some (Events.Store c.args.mem (n + c.args.offset) c.args.bytes))) t,
        c.shrink.ensures.cut front (x.v.number ∷ x.w'.number ∷ []) x.are refl,
        o.1 ∙ ap₂ (λ (a n : ℕ). with_bytes c.args.store.now.storage c.args.mem x.m (written_at (a + c.args.offset) (bytes_of_number c.args.bytes n) x.m.bytes)) t n,
      );
      outside = λ g. absurd (omega (arith, o.0, t, g));
    })

pub returns-in-Err-OutOfBounds-clause-does : goal.returns-in-Err-OutOfBounds-clause-does
returns-in-Err-OutOfBounds-clause-does c = λ l signed align code codes fns fn h cd vs k m.
    let x = store_met codes code (shown c.args.act.now) c.args.next fns fn c.args.store.now.storage h cd vs c.args.mem c.args.width l c.args.bytes signed align c.args.offset k m in
    let front : List ℕ = under h ++ numbers x.below in
    let t : c.second_small.result ≡ x.v.number = c.second_small.ensures front x.v.number x.w'.number x.are in
    let o = subst (λ (e : StoreFault). Stores c.args.store.now.storage c.args.mem x.m (c.second_small.result + c.args.offset) c.args.bytes c.top-number.result (Err e) c.store.new.self.storage) c.in-Err-OutOfBounds.field-0-is (c.in-Err-OutOfBounds.ensures.answer x.m x.found) in
    store_done codes code (shown c.args.act.now) c.args.next fns fn c.args.store.now.storage h cd vs c.args.mem c.args.width l c.args.bytes align c.args.offset x (Steppeds.Trapped MemoryBounds (Some (Events.Store c.args.mem (c.second_small.result + c.args.offset) c.args.bytes))) (shown c.args.act.now) c.store.new.self.storage (record {
      inside = λ g. absurd (omega (arith, o.0, t, g));
      outside = λ g. ap (λ n. Steppeds.Trapped MemoryBounds (Some (Events.Store c.args.mem (n + c.args.offset) c.args.bytes))) t;
    })

pub returns-in-Err-NoMemory-clause-kept : goal.returns-in-Err-NoMemory-clause-kept
returns-in-Err-NoMemory-clause-kept c =
    let q = c.requires.runs in let r = q.4 in let x = store_met r.codes q.3 (shown c.args.act.now) c.args.next r.fns r.fn c.args.store.now.storage r.place r.code r.values c.args.mem c.args.width q.0 c.args.bytes q.1 q.2 c.args.offset r.knows r.meets in
    let o = subst (λ (e : StoreFault). Stores c.args.store.now.storage c.args.mem x.m (c.second_small.result + c.args.offset) c.args.bytes c.top-number.result (Err e) c.store.new.self.storage) c.in-Err-NoMemory.field-0-is (c.in-Err-NoMemory.ensures.answer x.m x.found) in
    (refl, o.1)

pub returns-in-Ok-clause-settles : goal.returns-in-Ok-clause-settles
returns-in-Ok-clause-settles c =
    let q = c.requires.runs in let r = q.4 in let x = store_met r.codes q.3 (shown c.args.act.now) c.args.next r.fns r.fn c.args.store.now.storage r.place r.code r.values c.args.mem c.args.width q.0 c.args.bytes q.1 q.2 c.args.offset r.knows r.meets in
    let front : List ℕ = under r.place ++ numbers x.below in
    inr (fewer_words (shown c.args.act.now) (shown c.shrink.new.act) front c.args.next (c.shrink.ensures.cut front (x.v.number ∷ x.w'.number ∷ []) x.are refl)
    (omega (arith, ap length x.are, length-append front (x.v.number ∷ x.w'.number ∷ []))))

pub returns-in-Err-OutOfBounds-clause-settles : goal.returns-in-Err-OutOfBounds-clause-settles
returns-in-Err-OutOfBounds-clause-settles c =
    let q = c.requires.runs in let r = q.4 in let x = store_met r.codes q.3 (shown c.args.act.now) c.args.next r.fns r.fn c.args.store.now.storage r.place r.code r.values c.args.mem c.args.width q.0 c.args.bytes q.1 q.2 c.args.offset r.knows r.meets in
    (subst (λ (e : StoreFault). Stores c.args.store.now.storage c.args.mem x.m (c.second_small.result + c.args.offset) c.args.bytes c.top-number.result (Err e) c.store.new.self.storage) c.in-Err-OutOfBounds.field-0-is (c.in-Err-OutOfBounds.ensures.answer x.m x.found)).1
