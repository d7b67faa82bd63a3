use Rattle.std.proofs.Common.{◌≡◌, drop}
use Rattle.std.specs.Str.{all_ascii_digits}
use Rattle.ctw_words.proofs.words.are_digits.Given as goal

abbrev pub invariant-bytes : goal.invariant-bytes
invariant-bytes l = all_ascii_digits l.bytes ≡ all_ascii_digits (drop l.b-index l.bytes)
