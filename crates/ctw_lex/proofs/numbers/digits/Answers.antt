use Rattle.std.proofs.Common.{◌≡◌, ◌+◌, ◌*◌, ◌^◌, ◌<◌, true, false, min, get_or, option_map, arith, sym, ap, ◌∙◌}
use Rattle.ctw_lex.specs.Chars.{hex_value}
use Rattle.ctw_lex.specs.declared.numbers.Base.{Base}
use Rattle.ctw_lex.specs.declared.numbers.Base.TheVariants.{Decimal, Hexadecimal}
use Rattle.ctw_lex.specs.NumberValues.{radix, digit_test}
use Rattle.ctw_lex.proofs.NumberLaws.{capped_digit, gap_read}
use Rattle.ctw_lex.proofs.numbers.digits.Goals as goal
use Rattle.ctw_lex.proofs.numbers.digits.Goals.{then-is_digit, else-is_digit+then-after_digit+then-b-eq95}

radix_positive : (base : Base) → 0 < radix base
radix_positive Decimal = omega arith
radix_positive Hexadecimal = omega arith

pub loop-b-preserved : goal.loop-b-preserved
loop-b-preserved c =
    let base = c.args.base in
    let bs = c.args.bytes.now in
    let i = c.loop-b.b-index in
    elim c.if-is_digit.branch [
      | then-is_digit w ↦
          let h : digit_test base (get_or bs i 0) ≡ true = cc in
          let e : w.with_digit-value.result ≡ min (radix base * c.loop-b.value + hex_value (get_or bs i 0)) (2 ^ 64) = cc in
          let k = capped_digit (radix base) (digit_test base) i c.loop-b.value bs c.loop-b-test.true c.loop-b.after_digit w.with_digit-value.result (2 ^ 64) (radix_positive base) h e in
          record { small = rw w.value-is (omega arith); same = rw (w.value-is, w.after_digit-is) (k ∙ c.loop-b.invariant.same) }
      | else-is_digit+then-after_digit+then-b-eq95 w ↦
          let h : digit_test base (get_or bs i 0) ≡ false = cc in
          let k = gap_read (radix base) (digit_test base) i c.loop-b.value bs c.loop-b-test.true h w.if-b-eq95.true in
          record { small = rw w.value-is (omega arith); same = rw (w.value-is, w.after_digit-is) (ap (option_map (λ n. min n (2 ^ 64))) (sym k) ∙ (rw w.if-after_digit.true at c.loop-b.invariant.same)) }
    ]
