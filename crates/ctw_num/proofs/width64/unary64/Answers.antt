-- Answers of `unary64`: the sign extensions.
use Rattle.std.proofs.Common.{Some, sym, ap, ◌∙◌, SFits, w64, rules, ◌%◌, ◌^◌, pow_pos}
use Rattle.std.proofs.Math.Nat.{mod-lt}
use Rattle.ctw_num.specs.Integers.{unsigned}
use Rattle.ctw_num.specs.Values.{unary64}
use Rattle.ctw_num.proofs.Signs.{seen8, seen16, seen32, bits64}
use Rattle.ctw_num.proofs.width64.unary64.Goals as goal

pub returns-in-194 : goal.returns-in-194
unfolding unary64
returns-in-194 c =
    let fits : SFits w64 c.from-in-194.result = search rules in
    ap (λ op. unary64 op c.args.n) c.in-194.is
    ∙ ap Some (sym (c.cast_unsigned.ensures ∙ bits64 c.from-in-194.result fits
    ∙ ap (unsigned 64) (c.from-in-194.ensures ∙ seen8 (c.args.n % 2 ^ 8) c.cast_signed.result (mod-lt c.args.n (pow_pos 8)) c.cast_signed.ensures)))

pub returns-in-195 : goal.returns-in-195
unfolding unary64
returns-in-195 c =
    let fits : SFits w64 c.from-in-195.result = search rules in
    ap (λ op. unary64 op c.args.n) c.in-195.is
    ∙ ap Some (sym (c.cast_unsigned-in-195.ensures ∙ bits64 c.from-in-195.result fits
    ∙ ap (unsigned 64) (c.from-in-195.ensures ∙ seen16 (c.args.n % 2 ^ 16) c.cast_signed-in-195.result (mod-lt c.args.n (pow_pos 16)) c.cast_signed-in-195.ensures)))

pub returns-in-196 : goal.returns-in-196
unfolding unary64
returns-in-196 c =
    let fits : SFits w64 c.from-in-196.result = search rules in
    ap (λ op. unary64 op c.args.n) c.in-196.is
    ∙ ap Some (sym (c.cast_unsigned-in-196.ensures ∙ bits64 c.from-in-196.result fits
    ∙ ap (unsigned 64) (c.from-in-196.ensures ∙ seen32 (c.args.n % 2 ^ 32) c.cast_signed-in-196.result (mod-lt c.args.n (pow_pos 32)) c.cast_signed-in-196.ensures)))
