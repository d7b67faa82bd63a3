use Rattle.ctw_write.specs.Canon.{op_text}
use Rattle.ctw_write.specs.KeepsLimits.{IsLimitedOp}
use Rattle.ctw_parse.proofs.Sections.{ListedWith}
use Rattle.ctw_parse.proofs.code.put_ops.Given as goal

-- the first ones are written
abbrev pub invariant-ops : goal.invariant-ops
invariant-ops l = ListedWith IsLimitedOp op_text l.ops l.op-index l.initial.out.items l.out.items
