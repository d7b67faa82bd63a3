use Rattle.std.proofs.Common.{Some, refl, sym, ap, ◌∙◌}
use Rattle.ctw_flat.specs.declared.instr.Instr.TheVariants as instr
use Rattle.ctw_step.specs.Shown.{shown}
use Rattle.ctw_step.specs.Calls.{Calls}
use Rattle.ctw_step.proofs.Dispatch.{runs_as, done_as, call_function, function_known, call_target}
use Rattle.ctw_step.proofs.placed.call_in.Goals as goal

pub function_in-requires : goal.function_in-requires
function_in-requires c = let q = c.requires.runs in let r = q.2 in call_function c.args.set.now c.args.part q.0 (shown c.args.act.now) (instr.Call c.args.index) c.args.next q.1 r c.args.index refl

pub call-requires : goal.call-requires
call-requires c = let q = c.requires.runs in let r = q.2 in
    let k = function_known c.args.set.now c.args.part r.place.func r.fn r.inside c.args.index c.function_in.result c.function_in.ensures.number in
    let t = call_target c.args.set.now q.0 (shown c.args.act.now) (instr.Call c.args.index) c.args.next q.1 r.fn r.place r.code r.values c.args.index c.function_in.result refl r.meets k in (
      c.args.index,
      q.0,
      q.1,
      runs_as c.args.set.now c.args.part q.0 (shown c.args.act.now) (instr.Call c.args.index) (instr.Call c.args.index) c.args.next q.1 refl (Calls c.args.index c.callee_of.result) r
          (k ∙ ap Some (sym c.callee_of.ensures.number), t.0, c.callee_of.ensures.known t.0 t.1),
    )

pub returns-clause-does : goal.returns-clause-does
returns-clause-does c = λ code s. done_as c.args.set.now c.args.part code (shown c.args.act.now) (instr.Call c.args.index) (instr.Call c.args.index) c.args.next s refl (Calls c.args.index c.callee_of.result) c.call.result (shown c.call.new.act) s
    (λ fn h cd vs p m.
    let k = function_known c.args.set.now c.args.part h.func fn p c.args.index c.function_in.result c.function_in.ensures.number in
    let t = call_target c.args.set.now code (shown c.args.act.now) (instr.Call c.args.index) c.args.next s fn h cd vs c.args.index c.function_in.result refl m k in
    (k ∙ ap Some (sym c.callee_of.ensures.number), t.0, c.callee_of.ensures.known t.0 t.1))
    (c.call.ensures.does c.args.index code s)
