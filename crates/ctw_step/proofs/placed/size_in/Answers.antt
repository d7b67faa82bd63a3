use Rattle.std.proofs.Common.{refl}
use Rattle.ctw_flat.specs.declared.instr.Instr.TheVariants as instr
use Rattle.ctw_step.specs.Shown.{shown}
use Rattle.ctw_step.specs.Told.{HasMemory}
use Rattle.ctw_step.proofs.Dispatch.{runs_as, done_as, size_memory, memory_known}
use Rattle.ctw_step.proofs.placed.size_in.Goals as goal

pub memory_in-requires : goal.memory_in-requires
memory_in-requires c = let q = c.requires.runs in let r = q.1 in size_memory c.args.set.now c.args.part q.0 (shown c.args.act.now) instr.MemorySize c.args.next c.args.store.now.storage r refl

pub memory_size-requires : goal.memory_size-requires
memory_size-requires c = let q = c.requires.runs in let r = q.1 in (q.0, runs_as c.args.set.now c.args.part q.0 (shown c.args.act.now) instr.MemorySize instr.MemorySize c.args.next c.args.store.now.storage refl (HasMemory c.memory_in.result) r (memory_known c.args.set.now c.args.part r.place.func r.fn r.inside c.memory_in.result c.memory_in.ensures))

pub returns-clause-does : goal.returns-clause-does
returns-clause-does c = λ code. done_as c.args.set.now c.args.part code (shown c.args.act.now) instr.MemorySize instr.MemorySize c.args.next c.args.store.now.storage refl (HasMemory c.memory_in.result) c.memory_size.result (shown c.memory_size.new.act) c.args.store.now.storage (λ fn h cd vs p m. memory_known c.args.set.now c.args.part h.func fn p c.memory_in.result c.memory_in.ensures) (c.memory_size.ensures.does code)
