use Rattle.std.proofs.Common.{◌≡◌, ◌++◌, take, drop, length}
use Rattle.ctw_script.specs.Lines.{hex_digits}
use Rattle.ctw_script.proofs.lines.add_hexadecimal.Given as goal

abbrev pub invariant-loop-b : goal.invariant-loop-b
invariant-loop-b l = record {
  appended : l.out.items ++ hex_digits (drop l.b-index l.bytes) ≡ l.initial.out.items ++ hex_digits l.bytes;
  kept : take (length l.initial.out.items) l.out.items ≡ l.initial.out.items;
}
