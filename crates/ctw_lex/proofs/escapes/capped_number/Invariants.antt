use Rattle.std.proofs.Common.{◌≡◌, take, min}
use Rattle.ctw_lex.specs.Chars.{number_of}
use Rattle.ctw_lex.proofs.escapes.capped_number.Given as goal

abbrev pub invariant-loop-b : goal.invariant-loop-b
invariant-loop-b l = l.value ≡ min (number_of (take l.b-index l.digits)) 0x20_0000
