-- Answers of `shift32`: the shift that copies the sign.
use Rattle.std.proofs.Common.{Some, ◌≡◌, ℤ, ◌∙◌, ◌%◌, sym, ap, SFits, w32, rules}
use Rattle.std.proofs.lemmas.Int.{of_z-to_z, to_z-of_z}
use Rattle.std.specs.Int.{cast_signed, cast_unsigned, int_shr}
use Rattle.ctw_num.specs.Values.{shift32}
use Rattle.ctw_num.proofs.Shifts.{shr_s32}
use Rattle.ctw_num.proofs.width32.shift32.Goals as goal

pub returns-in-117 : goal.returns-in-117
unfolding shift32
returns-in-117 c =
    let seen : cast_signed w32 (cast_unsigned w32 c.cast_signed.result) ≡ cast_signed w32 c.args.a =
    ap (λ (z : ℤ). cast_signed w32 (cast_unsigned w32 z)) c.cast_signed.ensures ∙ ap (cast_signed w32) (of_z-to_z w32 c.args.a c.ranges.a.fits) in
    let fits : SFits w32 c.wrapping_shr.result = search rules in
    ap (λ op. shift32 op c.args.a c.args.b) c.in-117.is
    ∙ ap Some (sym (c.cast_unsigned.ensures
    ∙ ap (cast_unsigned w32) (to_z-of_z w32 c.wrapping_shr.result fits ∙ c.wrapping_shr.ensures ∙ ap (λ z. int_shr z (c.args.b % 32)) seen)
    ∙ shr_s32 c.args.a c.args.b c.ranges.a.fits))
