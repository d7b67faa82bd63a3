use Rattle.std.proofs.Common.{suc, refl, sym, ◌∙◌}
use Rattle.ctw_flat.specs.Instructions.{op_of}
use Rattle.ctw_step.proofs.free.next_counted.Goals as goal

pub read-instr-requires : goal.read-instr-requires
read-instr-requires c = c.requires 0 c.args.start refl

pub free-init : goal.free-init
free-init c = (0, refl, c.read-instr.ensures.reads, c.read-instr.ensures.exactly, c.read-instr.ensures.behind, c.read-instr.ensures.inside)

pub read-requires : goal.read-requires
read-requires c =
    let i = c.free.invariant in
    c.requires (suc i.0) c.free.next (c.free.at, op_of c.free.instr, sym c.is_change.ensures ∙ c.free-test.true, i.1, i.2)

pub free-preserved : goal.free-preserved
free-preserved c =
    let i = c.free.invariant in
    (suc i.0, (c.free.at, op_of c.free.instr, sym c.is_change.ensures ∙ c.free-test.true, i.1, i.2), c.read.ensures.reads, c.read.ensures.exactly, c.read.ensures.behind, c.read.ensures.inside)
