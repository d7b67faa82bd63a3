use Rattle.std.proofs.Common.{Ok, refl}
use Rattle.ctw_flat.specs.declared.instr.Instr.TheVariants as instr
use Rattle.ctw_step.specs.Shown.{shown}
use Rattle.ctw_step.specs.Told.{HasGlobal}
use Rattle.ctw_step.proofs.Dispatch.{runs_as, done_as, set_global, global_known}
use Rattle.ctw_step.proofs.placed.set_in.Goals as goal

pub global_in-requires : goal.global_in-requires
global_in-requires c = let q = c.requires.runs in let r = q.1 in set_global c.args.set.now c.args.part q.0 (shown c.args.act.now) (instr.GlobalSet c.args.index) c.args.next c.args.store.now.storage r c.args.index refl

pub global_set-requires : goal.global_set-requires
global_set-requires c = let q = c.requires.runs in let r = q.1 in (c.args.index, q.0, runs_as c.args.set.now c.args.part q.0 (shown c.args.act.now) (instr.GlobalSet c.args.index) (instr.GlobalSet c.args.index) c.args.next c.args.store.now.storage refl (HasGlobal c.args.index c.global_in.result) r (global_known c.args.set.now c.args.part r.place.func r.fn r.inside c.args.index c.global_in.result c.global_in.ensures))

pub returns-clause-does : goal.returns-clause-does
returns-clause-does c = λ code. done_as c.args.set.now c.args.part code (shown c.args.act.now) (instr.GlobalSet c.args.index) (instr.GlobalSet c.args.index) c.args.next c.args.store.now.storage refl (HasGlobal c.args.index c.global_in.result) (Ok c.global_set.result) (shown c.global_set.new.act) c.global_set.new.store.storage (λ fn h cd vs p m. global_known c.args.set.now c.args.part h.func fn p c.args.index c.global_in.result c.global_in.ensures) (c.global_set.ensures.does c.args.index code)
