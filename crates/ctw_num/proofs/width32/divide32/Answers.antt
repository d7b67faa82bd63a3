-- Answers of `divide32`: the signed divisions.
use Rattle.std.proofs.Common.{Some, ◌≡◌, ℤ, ◌∙◌, sym, ap, SFits, w32, Ok, int_div, rules}
use Rattle.std.specs.Int.{cast_signed, cast_unsigned}
use Rattle.ctw_num.specs.Integers.{signed, unsigned}
use Rattle.ctw_num.specs.Values.{division32}
use Rattle.ctw_num.proofs.Signs.{seen32, bits32, nonzero32}
use Rattle.ctw_num.proofs.Divisions.{quotient_fits, quotient_overflows, remainder_given}
use Rattle.ctw_num.proofs.width32.divide32.Goals as goal

pub returns-in-Some : goal.returns-in-Some
unfolding division32
returns-in-Some c =
    let j = cast_signed w32 (cast_unsigned w32 c.cast_signed.result) in
    let k = cast_signed w32 (cast_unsigned w32 c.cast_signed-in-109.result) in
    let left : j ≡ signed 32 c.args.a = seen32 c.args.a c.cast_signed.result c.ranges.a.fits c.cast_signed.ensures in
    let right : k ≡ signed 32 c.args.b = seen32 c.args.b c.cast_signed-in-109.result c.ranges.b.fits c.cast_signed-in-109.ensures in
    let fits : SFits w32 (int_div j k) = c.in-Some.ensures.0.1 in
    ap (λ op. division32 op c.args.a c.args.b) c.in-109.is
    ∙ ap Some (sym (ap Ok (c.cast_unsigned.ensures ∙ ap (λ (z : ℤ). cast_unsigned w32 (cast_signed w32 (cast_unsigned w32 z))) c.in-Some.ensures.1 ∙ bits32 (int_div j k) fits)
    ∙ quotient_fits 32 c.args.a c.args.b j k c.if-b-eq0.false left right fits.sfits))

pub returns-in-None : goal.returns-in-None
unfolding division32
returns-in-None c =
    let j = cast_signed w32 (cast_unsigned w32 c.cast_signed.result) in
    let k = cast_signed w32 (cast_unsigned w32 c.cast_signed-in-109.result) in
    let left : j ≡ signed 32 c.args.a = seen32 c.args.a c.cast_signed.result c.ranges.a.fits c.cast_signed.ensures in
    let right : k ≡ signed 32 c.args.b = seen32 c.args.b c.cast_signed-in-109.result c.ranges.b.fits c.cast_signed-in-109.ensures in
    let fits : SFits w32 j = search rules in
    ap (λ op. division32 op c.args.a c.args.b) c.in-109.is
    ∙ ap Some (sym (quotient_overflows 32 c.args.a c.args.b j k c.if-b-eq0.false left right fits.sfits (λ h. c.in-None.ensures (nonzero32 c.args.b c.cast_signed-in-109.result c.ranges.b.fits c.if-b-eq0.false c.cast_signed-in-109.ensures, record { sfits = h }))))

pub returns-in-111 : goal.returns-in-111
unfolding division32
returns-in-111 c =
    let j = cast_signed w32 (cast_unsigned w32 c.cast_signed-in-111.result) in
    let k = cast_signed w32 (cast_unsigned w32 c.cast_signed-in-111-2.result) in
    let left : j ≡ signed 32 c.args.a = seen32 c.args.a c.cast_signed-in-111.result c.ranges.a.fits c.cast_signed-in-111.ensures in
    let right : k ≡ signed 32 c.args.b = seen32 c.args.b c.cast_signed-in-111-2.result c.ranges.b.fits c.cast_signed-in-111-2.ensures in
    let fits : SFits w32 c.wrapping_rem.result = search rules in
    ap (λ op. division32 op c.args.a c.args.b) c.in-111.is
    ∙ ap Some (sym (ap Ok (c.cast_unsigned-in-111.ensures ∙ bits32 c.wrapping_rem.result fits ∙ ap (unsigned 32) c.wrapping_rem.ensures)
    ∙ remainder_given 32 c.args.a c.args.b j k c.if-b-eq0.false left right))
