use Rattle.std.proofs.Common.{◌≡◌, ◌-◌, length}
use Rattle.ctw_write.specs.Canon.{op_text}
use Rattle.ctw_write.proofs.Walked.{OpsAhead}
use Rattle.ctw_write.proofs.code.put_body.Given as goal

-- the opcodes that are left stand from the reached place on
abbrev pub invariant-opcodes : goal.invariant-opcodes
invariant-opcodes l = record {
  bytes : l.walk.bytes ≡ l.body;
  ahead : OpsAhead op_text l.walk.bytes l.walk.place l.out.items l.initial.out.items;
}

abbrev pub decreases-opcodes : goal.decreases-opcodes
decreases-opcodes l = length l.walk.bytes - l.walk.place
