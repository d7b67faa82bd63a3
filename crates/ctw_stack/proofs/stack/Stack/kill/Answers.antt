use Rattle.std.proofs.Common.{◌-◌, ap, length, arith}
use Rattle.ctw_stack.proofs.View.{kill_law, length_of_blocks}
use Rattle.ctw_stack.proofs.stack.Stack.kill.Goals as goal

pub invariant_of-self : goal.invariant_of-self
invariant_of-self g c =
    let n = length_of_blocks c.self.invariant in
    let v = ap length c.self.view_is in
    rw c.truncate.ensures.items ((kill_law (c.len-last.result - 1) c.index-block.result.now c.self.invariant (omega (arith, n, v, c.requires)) (omega (arith, n, v, c.requires)) c.index-block.ensures).sound)

pub returns : goal.returns
returns g c =
    let n = length_of_blocks c.self.invariant in
    let v = ap length c.self.view_is in
    rw (c.truncate.ensures.items, ← c.self.view_is) ((kill_law (c.len-last.result - 1) c.index-block.result.now c.self.invariant (omega (arith, n, v, c.requires)) (omega (arith, n, v, c.requires)) c.index-block.ensures).view)
