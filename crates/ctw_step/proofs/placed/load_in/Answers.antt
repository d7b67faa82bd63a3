use Rattle.std.proofs.Common.{Ok, refl}
use Rattle.ctw_flat.specs.declared.instr.Instr.TheVariants as instr
use Rattle.ctw_step.specs.Shown.{shown}
use Rattle.ctw_step.specs.Told.{HasMemory}
use Rattle.ctw_step.proofs.Dispatch.{runs_as, done_as, load_memory, memory_known}
use Rattle.ctw_step.proofs.placed.load_in.Goals as goal

pub memory_in-requires : goal.memory_in-requires
memory_in-requires c = let q = c.requires.runs in let r = q.3 in load_memory c.args.set.now c.args.part q.2 (shown c.args.act.now) (instr.Load c.args.width q.0 c.args.bytes c.args.signed q.1 c.args.offset) c.args.next c.args.store.now.storage r c.args.width q.0 c.args.bytes c.args.signed q.1 c.args.offset refl

pub load-requires-clause-runs : goal.load-requires-clause-runs
load-requires-clause-runs c = let q = c.requires.runs in let r = q.3 in (q.0, q.1, q.2, runs_as c.args.set.now c.args.part q.2 (shown c.args.act.now) (instr.Load c.args.width q.0 c.args.bytes c.args.signed q.1 c.args.offset) (instr.Load c.args.width q.0 c.args.bytes c.args.signed q.1 c.args.offset) c.args.next c.args.store.now.storage refl (HasMemory c.memory_in.result) r (memory_known c.args.set.now c.args.part r.place.func r.fn r.inside c.memory_in.result c.memory_in.ensures))

pub load-requires-clause-small : goal.load-requires-clause-small
load-requires-clause-small c = c.requires.small c.memory_in.result

pub returns : goal.returns
returns c = λ l align code. done_as c.args.set.now c.args.part code (shown c.args.act.now) (instr.Load c.args.width l c.args.bytes c.args.signed align c.args.offset) (instr.Load c.args.width l c.args.bytes c.args.signed align c.args.offset) c.args.next c.args.store.now.storage refl (HasMemory c.memory_in.result) (Ok c.load.result) (shown c.load.new.act) c.args.store.now.storage (λ fn h cd vs p m. memory_known c.args.set.now c.args.part h.func fn p c.memory_in.result c.memory_in.ensures) (c.load.ensures l align code)
