use Rattle.ctw_step.specs.Shown.{shown}
use Rattle.ctw_step.proofs.MemoryLaws.{size_met, size_done, memory_within}
use Rattle.ctw_step.proofs.memory.memory_size.Goals as goal

pub size-requires : goal.size-requires
size-requires c = let q = c.requires in let r = q.1 in let x = size_met r.codes q.0 (shown c.args.act.now) c.args.next r.fns r.fn c.args.store.now.storage r.place r.code r.values c.args.mem r.knows r.meets in memory_within c.args.store.now.storage c.args.mem x.m x.found

pub returns-clause-does : goal.returns-clause-does
returns-clause-does c = λ code codes fns fn h cd vs k m.
    let x = size_met codes code (shown c.args.act.now) c.args.next fns fn c.args.store.now.storage h cd vs c.args.mem k m in
    size_done codes code (shown c.args.act.now) c.args.next fns fn c.args.store.now.storage h cd vs c.args.mem x c.size.result (c.size.ensures.size x.m x.found) (shown c.push.new.act) c.in_ok-push.ensures
