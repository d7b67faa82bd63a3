use Rattle.ctw_flat.specs.Instructions.{op_of}
use Rattle.ctw_flat.proofs.Places.{walks, walk_stops, walk_stays}
use Rattle.ctw_flat.proofs.walk.Walk.next.Goals as goal

pub invariant_of-self : goal.invariant_of-self
invariant_of-self c =
    let m = walk_stays c.self.inside.code.now c.self.inside.cursor c.duplicate-ahead.result c.read_instr.new.cursor (op_of c.in-Ok.instr) c.duplicate-ahead.ensures c.self.invariant.0 c.self.invariant.1 c.in-Ok.ensures.instr in
    (m.0, m.1, c.self.invariant.2)

pub returns-in-Ok-clause-instr : goal.returns-in-Ok-clause-instr
returns-in-Ok-clause-instr c = rw (← c.self.view_is) (walks c.self.inside.code.now c.self.inside.cursor c.duplicate-ahead.result c.read_instr.new.cursor (op_of c.in-Ok.instr) c.duplicate-ahead.ensures c.self.invariant.0 c.in-Ok.ensures.instr)

pub returns-in-Err-clause-instr : goal.returns-in-Err-clause-instr
returns-in-Err-clause-instr c = rw (← c.self.view_is) (walk_stops c.self.inside.code.now c.self.inside.cursor c.duplicate-ahead.result c.in-Err.fault c.duplicate-ahead.ensures c.self.invariant.0 c.in-Err.ensures.instr)
