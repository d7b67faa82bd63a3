-- Answers of `divide64`: the signed divisions.
use Rattle.std.proofs.Common.{Some, ◌≡◌, ℤ, ◌∙◌, sym, ap, SFits, w64, Ok, int_div, rules}
use Rattle.std.specs.Int.{cast_signed, cast_unsigned}
use Rattle.ctw_num.specs.Integers.{signed, unsigned}
use Rattle.ctw_num.specs.Values.{division64}
use Rattle.ctw_num.proofs.Signs.{seen64, bits64, nonzero64}
use Rattle.ctw_num.proofs.Divisions.{quotient_fits, quotient_overflows, remainder_given}
use Rattle.ctw_num.proofs.width64.divide64.Goals as goal

pub returns-in-Some : goal.returns-in-Some
unfolding division64
returns-in-Some c =
    let j = cast_signed w64 (cast_unsigned w64 c.cast_signed.result) in
    let k = cast_signed w64 (cast_unsigned w64 c.cast_signed-in-127.result) in
    let left : j ≡ signed 64 c.args.a = seen64 c.args.a c.cast_signed.result c.ranges.a.fits c.cast_signed.ensures in
    let right : k ≡ signed 64 c.args.b = seen64 c.args.b c.cast_signed-in-127.result c.ranges.b.fits c.cast_signed-in-127.ensures in
    let fits : SFits w64 (int_div j k) = c.in-Some.ensures.0.1 in
    ap (λ op. division64 op c.args.a c.args.b) c.in-127.is
    ∙ ap Some (sym (ap Ok (c.cast_unsigned.ensures ∙ ap (λ (z : ℤ). cast_unsigned w64 (cast_signed w64 (cast_unsigned w64 z))) c.in-Some.ensures.1 ∙ bits64 (int_div j k) fits)
    ∙ quotient_fits 64 c.args.a c.args.b j k c.if-b-eq0.false left right fits.sfits))

pub returns-in-None : goal.returns-in-None
unfolding division64
returns-in-None c =
    let j = cast_signed w64 (cast_unsigned w64 c.cast_signed.result) in
    let k = cast_signed w64 (cast_unsigned w64 c.cast_signed-in-127.result) in
    let left : j ≡ signed 64 c.args.a = seen64 c.args.a c.cast_signed.result c.ranges.a.fits c.cast_signed.ensures in
    let right : k ≡ signed 64 c.args.b = seen64 c.args.b c.cast_signed-in-127.result c.ranges.b.fits c.cast_signed-in-127.ensures in
    let fits : SFits w64 j = search rules in
    ap (λ op. division64 op c.args.a c.args.b) c.in-127.is
    ∙ ap Some (sym (quotient_overflows 64 c.args.a c.args.b j k c.if-b-eq0.false left right fits.sfits (λ h. c.in-None.ensures (nonzero64 c.args.b c.cast_signed-in-127.result c.ranges.b.fits c.if-b-eq0.false c.cast_signed-in-127.ensures, record { sfits = h }))))

pub returns-in-129 : goal.returns-in-129
unfolding division64
returns-in-129 c =
    let j = cast_signed w64 (cast_unsigned w64 c.cast_signed-in-129.result) in
    let k = cast_signed w64 (cast_unsigned w64 c.cast_signed-in-129-2.result) in
    let left : j ≡ signed 64 c.args.a = seen64 c.args.a c.cast_signed-in-129.result c.ranges.a.fits c.cast_signed-in-129.ensures in
    let right : k ≡ signed 64 c.args.b = seen64 c.args.b c.cast_signed-in-129-2.result c.ranges.b.fits c.cast_signed-in-129-2.ensures in
    let fits : SFits w64 c.wrapping_rem.result = search rules in
    ap (λ op. division64 op c.args.a c.args.b) c.in-129.is
    ∙ ap Some (sym (ap Ok (c.cast_unsigned-in-129.ensures ∙ bits64 c.wrapping_rem.result fits ∙ ap (unsigned 64) c.wrapping_rem.ensures)
    ∙ remainder_given 64 c.args.a c.args.b j k c.if-b-eq0.false left right))
