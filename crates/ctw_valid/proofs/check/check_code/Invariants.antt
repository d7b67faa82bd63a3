use Rattle.std.proofs.Common.{◌≡◌, ◌-◌, length}
use Rattle.ctw_valid.proofs.LoopLaws.{Running}
use Rattle.ctw_valid.proofs.check.check_code.Given as goal

-- the opcodes before the reached place were passed
abbrev pub invariant-opcodes : goal.invariant-opcodes
invariant-opcodes l = record {
  bytes : l.walk.bytes ≡ l.body;
  running : Running l.around l.walk.bytes l.walk.place l.at l.levels;
}

abbrev pub decreases-opcodes : goal.decreases-opcodes
decreases-opcodes l = length l.walk.bytes - l.walk.place
