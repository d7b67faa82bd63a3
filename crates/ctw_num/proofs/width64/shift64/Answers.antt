-- Answers of `shift64`: the shift that copies the sign.
use Rattle.std.proofs.Common.{Some, ◌≡◌, ℤ, ◌∙◌, sym, ap, ap₂, SFits, w64, rules}
use Rattle.std.proofs.Math.Nat.{mod-mod}
use Rattle.std.proofs.lemmas.Int.{of_z-to_z, to_z-of_z}
use Rattle.std.specs.Int.{cast_signed, cast_unsigned, int_shr}
use Rattle.ctw_num.specs.Values.{shift64}
use Rattle.ctw_num.proofs.Shifts.{shr_s64}
use Rattle.ctw_num.proofs.width64.shift64.Goals as goal

pub returns-in-135 : goal.returns-in-135
unfolding shift64
returns-in-135 c =
    let seen : cast_signed w64 (cast_unsigned w64 c.cast_signed.result) ≡ cast_signed w64 c.args.a =
    ap (λ (z : ℤ). cast_signed w64 (cast_unsigned w64 z)) c.cast_signed.ensures ∙ ap (cast_signed w64) (of_z-to_z w64 c.args.a c.ranges.a.fits) in
    let fits : SFits w64 c.wrapping_shr.result = search rules in
    ap (λ op. shift64 op c.args.a c.args.b) c.in-135.is
    ∙ ap Some (sym (c.cast_unsigned.ensures
    ∙ ap (cast_unsigned w64) (to_z-of_z w64 c.wrapping_shr.result fits ∙ c.wrapping_shr.ensures ∙ ap₂ int_shr seen (mod-mod c.args.b 64))
    ∙ shr_s64 c.args.a c.args.b c.ranges.a.fits))
