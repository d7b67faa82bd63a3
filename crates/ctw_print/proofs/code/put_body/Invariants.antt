use Rattle.std.proofs.Common.{◌≡◌, ◌-◌, length}
use Rattle.std.specs.String.{string_bytes}
use Rattle.ctw_print.proofs.Walked.{LinesAhead}
use Rattle.ctw_print.proofs.code.put_body.Given as goal

-- the opcodes that are left stand from the reached place on
abbrev pub invariant-opcodes : goal.invariant-opcodes
invariant-opcodes l = record {
  bytes : l.walk.bytes ≡ l.body;
  ahead : LinesAhead l.walk.bytes l.walk.place (string_bytes l.out) (string_bytes l.initial.out);
}

abbrev pub decreases-opcodes : goal.decreases-opcodes
decreases-opcodes l = length l.walk.bytes - l.walk.place
