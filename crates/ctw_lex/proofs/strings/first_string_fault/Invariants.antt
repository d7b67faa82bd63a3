use Rattle.std.proofs.Common.{◌≡◌, ◌+◌, drop}
use Rattle.ctw_lex.specs.Strings.{contents, fault_of}
use Rattle.ctw_lex.proofs.strings.first_string_fault.Given as goal

abbrev pub invariant-loop-i : goal.invariant-loop-i
invariant-loop-i l = fault_of (contents l.skip (l.i + 1) (drop l.i l.content)) ≡ fault_of (contents 0 1 l.content)
