use Rattle.std.proofs.Common.{◌≡◌, ℕ, ◌+◌, ◌*◌, ◌++◌, ◌∷◌, [], ◌<◌, ◌^◌, List, length, take, drop, Some, sym, ap, ◌∙◌, arith, subst, length-append}
use Rattle.std.specs.Prelude.{if◌then◌else◌}
use Rattle.ctw_num.specs.Integers.{extend_s}
use Rattle.ctw_ops.specs.Types.{bit_width}
use Rattle.ctw_script.specs.declared.event.Event.TheVariants as Events
use Rattle.ctw_semantics.specs.Stores.{number_of_bytes, number_at}
use Rattle.ctw_step.specs.declared.running.Stepped.TheVariants as Steppeds
use Rattle.ctw_script.specs.declared.trap.TrapCode.TheVariants.{MemoryBounds}
use Rattle.ctw_step.specs.Shown.{shown}
use Rattle.ctw_step.specs.Stands.{numbers}
use Rattle.ctw_step.specs.Told.{with_operands}
use Rattle.ctw_step.proofs.Inside.{under}
use Rattle.ctw_semantics.proofs.SoundStores.{read_below}
use Rattle.ctw_step.proofs.MemoryLaws.{load_met, load_done, memory_within}
use Rattle.ctw_step.proofs.memory.load.Goals as goal

pub top_small-requires : goal.top_small-requires
top_small-requires c = let q = c.requires.runs in let r = q.3 in let x = load_met r.codes q.2 (shown c.args.act.now) c.args.next r.fns r.fn c.args.store.now.storage r.place r.code r.values c.args.mem c.args.width q.0 c.args.bytes c.args.signed q.1 c.args.offset r.knows r.meets in (_, x.v.number, x.are, x.small)

pub load-requires-clause-there : goal.load-requires-clause-there
load-requires-clause-there c = let q = c.requires.runs in let r = q.3 in let x = load_met r.codes q.2 (shown c.args.act.now) c.args.next r.fns r.fn c.args.store.now.storage r.place r.code r.values c.args.mem c.args.width q.0 c.args.bytes c.args.signed q.1 c.args.offset r.knows r.meets in memory_within c.args.store.now.storage c.args.mem x.m x.found

pub extended-requires-clause-below : goal.extended-requires-clause-below
extended-requires-clause-below c =
    let q = c.requires.runs in let r = q.3 in let x = load_met r.codes q.2 (shown c.args.act.now) c.args.next r.fns r.fn c.args.store.now.storage r.place r.code r.values c.args.mem c.args.width q.0 c.args.bytes c.args.signed q.1 c.args.offset r.knows r.meets in
    subst (λ n. n < 2 ^ (8 * c.args.bytes)) (sym (c.in-Ok.ensures x.m x.found).1) (read_below c.args.bytes (c.top_small.result + c.args.offset) x.m.bytes (c.requires.small x.m x.found))

pub set_top-requires : goal.set_top-requires
set_top-requires c =
    let q = c.requires.runs in let r = q.3 in let x = load_met r.codes q.2 (shown c.args.act.now) c.args.next r.fns r.fn c.args.store.now.storage r.place r.code r.values c.args.mem c.args.width q.0 c.args.bytes c.args.signed q.1 c.args.offset r.knows r.meets in
    omega (arith, ap length x.are, length-append (under r.place ++ numbers x.below) (x.v.number ∷ []))

pub returns-in-Ok : goal.returns-in-Ok
unfolding number_at
returns-in-Ok c = λ l align code codes fns fn h cd vs k m.
    let x = load_met codes code (shown c.args.act.now) c.args.next fns fn c.args.store.now.storage h cd vs c.args.mem c.args.width l c.args.bytes c.args.signed align c.args.offset k m in
    let front : List ℕ = under h ++ numbers x.below in
    let t : c.top_small.result ≡ x.v.number = c.top_small.ensures front x.v.number x.are in
    let o = c.in-Ok.ensures x.m x.found in
    load_done codes code (shown c.args.act.now) c.args.next fns fn c.args.store.now.storage h cd vs c.args.mem c.args.width l c.args.bytes c.args.signed align c.args.offset x (Steppeds.Went (Some (Events.Load c.args.mem (c.top_small.result + c.args.offset) c.args.bytes))) (shown c.set_top.new.act) (record {
      inside = λ g. (
        ap (λ n. Steppeds.Went (Some (Events.Load c.args.mem (n + c.args.offset) c.args.bytes))) t,
        c.set_top.ensures.set front x.v.number x.are ∙ ap (λ n. with_operands (shown c.args.act.now) (front ++ n ∷ []) c.args.next)
            (c.extended.ensures ∙ ap (λ n. if c.args.signed then extend_s (8 * c.args.bytes) (bit_width c.args.width) n else n) (o.1 ∙ ap (λ n. number_of_bytes (take c.args.bytes (drop (n + c.args.offset) x.m.bytes))) t)),
      );
      outside = λ g. absurd (omega (arith, o.0, t, g));
    })

pub returns-in-Err : goal.returns-in-Err
returns-in-Err c = λ l align code codes fns fn h cd vs k m.
    let x = load_met codes code (shown c.args.act.now) c.args.next fns fn c.args.store.now.storage h cd vs c.args.mem c.args.width l c.args.bytes c.args.signed align c.args.offset k m in
    let front : List ℕ = under h ++ numbers x.below in
    let t : c.top_small.result ≡ x.v.number = c.top_small.ensures front x.v.number x.are in
    let o = c.in-Err.ensures x.m x.found in
    load_done codes code (shown c.args.act.now) c.args.next fns fn c.args.store.now.storage h cd vs c.args.mem c.args.width l c.args.bytes c.args.signed align c.args.offset x (Steppeds.Trapped MemoryBounds (Some (Events.Load c.args.mem (c.top_small.result + c.args.offset) c.args.bytes))) (shown c.args.act.now) (record {
      inside = λ g. absurd (omega (arith, o, t, g));
      outside = λ g. ap (λ n. Steppeds.Trapped MemoryBounds (Some (Events.Load c.args.mem (n + c.args.offset) c.args.bytes))) t;
    })
