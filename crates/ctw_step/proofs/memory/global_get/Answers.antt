use Rattle.std.proofs.lemmas.Option.{slice_get_within}
use Rattle.ctw_step.specs.Shown.{shown}
use Rattle.ctw_step.proofs.MemoryLaws.{get_met, get_done}
use Rattle.ctw_step.proofs.memory.global_get.Goals as goal

pub global-requires : goal.global-requires
global-requires c = let q = c.requires in let r = q.2 in let x = get_met r.codes q.1 (shown c.args.act.now) c.args.next r.fns r.fn c.args.store.now.storage r.place r.code r.values q.0 c.args.global r.knows r.meets in slice_get_within c.args.store.now.storage.globals c.args.global x.g x.found

pub returns-clause-does : goal.returns-clause-does
returns-clause-does c = λ index code codes fns fn h cd vs k m.
    let x = get_met codes code (shown c.args.act.now) c.args.next fns fn c.args.store.now.storage h cd vs index c.args.global k m in
    get_done codes code (shown c.args.act.now) c.args.next fns fn c.args.store.now.storage h cd vs index c.args.global x c.global.result (c.global.ensures x.g x.found) (shown c.push.new.act) c.in_ok-push.ensures
