use Rattle.std.proofs.Common.{◌≡◌, ◌≤◌, ◌-◌, [], ℕ, List, length}
use Rattle.ctw_write.proofs.Walked.{OpsAhead}
use Rattle.ctwasm_top.proofs.Counted.{mark_of}
use Rattle.ctwasm_top.proofs.counting.classifies_in.Given as goal

-- the opcodes that are left stand from the reached place on
abbrev pub invariant-opcodes : goal.invariant-opcodes
invariant-opcodes l = record {
  bytes : l.walk.bytes ≡ l.body;
  marks : List ℕ;
  counted : l.count ≡ length marks;
  few : l.count ≤ l.walk.place;
  ahead : OpsAhead mark_of l.walk.bytes l.walk.place marks [];
}

abbrev pub decreases-opcodes : goal.decreases-opcodes
decreases-opcodes l = length l.walk.bytes - l.walk.place
