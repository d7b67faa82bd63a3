use Rattle.std.specs.Prelude.{◌≡◌, ◌≤◌, ◌-◌, length}
use Rattle.ctw_ops.specs.declared.types.Label.{Label}
use Rattle.ctw_ops.specs.Code.{Code}
use Rattle.ctw_flat.specs.Spelled.{IsBody}
use Rattle.ctw_infer.proofs.Walks.{CallsLeft}
use Rattle.ctw_infer.proofs.trust.first_in_body.Given as goal

-- no opcode before the reached place is a misused call
abbrev pub invariant-opcodes : goal.invariant-opcodes
invariant-opcodes l = record {
  bytes : l.walk.bytes ≡ l.body;
  few : l.at ≤ l.walk.place;
  left : (code : Code Label) → IsBody l.body code → CallsLeft l.p l.caller l.body l.walk.place l.at code;
}

abbrev pub decreases-opcodes : goal.decreases-opcodes
decreases-opcodes l = length l.walk.bytes - l.walk.place
