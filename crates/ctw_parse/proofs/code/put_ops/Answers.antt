use Rattle.std.proofs.Common.{arith}
use Rattle.ctw_write.specs.Canon.{op_text}
use Rattle.ctw_write.specs.KeepsLimits.{IsLimitedOp}
use Rattle.ctw_parse.proofs.Sections.{item_at, section_next, all_taken}
use Rattle.ctw_parse.proofs.code.put_ops.Goals as goal

pub ops-preserved : goal.ops-preserved
ops-preserved c =
    section_next IsLimitedOp op_text c.args.ops.now c.ops.op-index c.op-item.result _ c.ops.out.items c.put_op.new.out.items (item_at c.args.ops.now c.ops.op-index c.op-item.result (omega arith) c.op-item.is)
    c.in_ok-put_op.ensures.written c.in_ok-put_op.ensures.numbers c.ops.invariant

pub returns-clause-numbers : goal.returns-clause-numbers
returns-clause-numbers c = all_taken IsLimitedOp c.args.ops.now c.ops.op-index (omega arith) c.ops.invariant.1
