use Rattle.std.proofs.Common.{[], refl}
use Rattle.ctw_step.specs.Shown.{shown}
use Rattle.ctw_step.proofs.CallLaws.{call_met, call_room, call_done}
use Rattle.ctw_step.proofs.calls.call.Goals as goal

pub enter_frame-requires : goal.enter_frame-requires
enter_frame-requires c = let q = c.requires in let r = q.3 in call_room r.codes q.1 (shown c.args.act.now) c.args.next r.fns r.fn q.2 r.place r.code r.values q.0 c.args.callee (call_met r.codes q.1 (shown c.args.act.now) c.args.next r.fns r.fn q.2 r.place r.code r.values q.0 c.args.callee r.knows r.meets)

pub returns-clause-does : goal.returns-clause-does
returns-clause-does c = λ index code s codes fns fn h cd vs k m.
    let x = call_met codes code (shown c.args.act.now) c.args.next fns fn s h cd vs index c.args.callee k m in
    call_done codes code (shown c.args.act.now) c.args.next fns fn s h cd vs index c.args.callee x (shown c.enter_frame.new.act) (c.in_ok-enter_frame.ensures x.invoked_is.front x.invoked_is.args [] x.are x.invoked_is.count refl)
