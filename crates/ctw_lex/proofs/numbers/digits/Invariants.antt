use Rattle.std.proofs.Common.{◌≡◌, ◌^◌, ◌≤◌, false, option_map, min, drop}
use Rattle.ctw_lex.specs.NumberValues.{digits_value, radix, digit_test}
use Rattle.ctw_lex.proofs.numbers.digits.Given as goal

abbrev pub invariant-loop-b : goal.invariant-loop-b
invariant-loop-b l = record {
  small : l.value ≤ 2 ^ 64;
  same : option_map (λ n. min n (2 ^ 64)) (digits_value (radix l.base) (digit_test l.base) l.after_digit l.value (drop l.b-index l.bytes)) ≡ option_map (λ n. min n (2 ^ 64)) (digits_value (radix l.base) (digit_test l.base) false 0 l.bytes);
}
