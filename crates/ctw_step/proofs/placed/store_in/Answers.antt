use Rattle.std.proofs.Common.{refl}
use Rattle.ctw_flat.specs.declared.instr.Instr.TheVariants as instr
use Rattle.ctw_step.specs.Shown.{shown}
use Rattle.ctw_step.specs.Told.{HasMemory}
use Rattle.ctw_step.proofs.Dispatch.{runs_as, done_as, store_memory, memory_known}
use Rattle.ctw_step.proofs.placed.store_in.Goals as goal

pub memory_in-requires : goal.memory_in-requires
memory_in-requires c = let q = c.requires.runs in let r = q.4 in store_memory c.args.set.now c.args.part q.3 (shown c.args.act.now) (instr.Store c.args.width q.0 c.args.bytes q.1 q.2 c.args.offset) c.args.next c.args.store.now.storage r c.args.width q.0 c.args.bytes q.2 c.args.offset refl

pub store_number-requires-clause-runs : goal.store_number-requires-clause-runs
store_number-requires-clause-runs c = let q = c.requires.runs in let r = q.4 in (q.0, q.1, q.2, q.3, runs_as c.args.set.now c.args.part q.3 (shown c.args.act.now) (instr.Store c.args.width q.0 c.args.bytes q.1 q.2 c.args.offset) (instr.Store c.args.width q.0 c.args.bytes q.1 q.2 c.args.offset) c.args.next c.args.store.now.storage refl (HasMemory c.memory_in.result) r (memory_known c.args.set.now c.args.part r.place.func r.fn r.inside c.memory_in.result c.memory_in.ensures))

pub returns-clause-does : goal.returns-clause-does
returns-clause-does c = λ l signed align code. done_as c.args.set.now c.args.part code (shown c.args.act.now) (instr.Store c.args.width l c.args.bytes signed align c.args.offset) (instr.Store c.args.width l c.args.bytes signed align c.args.offset) c.args.next c.args.store.now.storage refl (HasMemory c.memory_in.result) c.store_number.result (shown c.store_number.new.act) c.store_number.new.store.storage (λ fn h cd vs p m. memory_known c.args.set.now c.args.part h.func fn p c.memory_in.result c.memory_in.ensures) (c.store_number.ensures.does l signed align code)
