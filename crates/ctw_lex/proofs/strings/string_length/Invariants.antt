use Rattle.std.proofs.Common.{◌≡◌, ◌+◌, drop, false}
use Rattle.std.specs.Prelude.{option_map}
use Rattle.ctw_lex.specs.Strings.{string_len}
use Rattle.ctw_lex.proofs.strings.string_length.Given as goal

abbrev pub invariant-loop-i : goal.invariant-loop-i
invariant-loop-i l = option_map (λ n. n + l.i) (string_len l.escaped (drop l.i l.rest)) ≡ string_len false l.rest
