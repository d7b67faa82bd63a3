-- Answers of `unary32`: the extensions that copy the sign.
use Rattle.std.proofs.Common.{Some, sym, ap, ◌∙◌, SFits, w32, w64, rules, ◌%◌, ◌^◌, pow_pos}
use Rattle.std.proofs.Math.Nat.{mod-lt}
use Rattle.ctw_num.specs.Integers.{unsigned}
use Rattle.ctw_num.specs.Values.{unary32}
use Rattle.ctw_num.proofs.Signs.{seen8, seen16, seen32, bits32, bits64}
use Rattle.ctw_num.proofs.width32.unary32.Goals as goal

pub returns-in-172 : goal.returns-in-172
unfolding unary32
returns-in-172 c =
    let fits : SFits w64 c.from-in-172.result = search rules in
    ap (λ op. unary32 op c.args.n) c.in-172.is
    ∙ ap Some (sym (c.cast_unsigned.ensures ∙ bits64 c.from-in-172.result fits
    ∙ ap (unsigned 64) (c.from-in-172.ensures ∙ seen32 c.args.n c.cast_signed.result c.ranges.n.fits c.cast_signed.ensures)))

pub returns-in-192 : goal.returns-in-192
unfolding unary32
returns-in-192 c =
    let fits : SFits w32 c.from-in-192.result = search rules in
    ap (λ op. unary32 op c.args.n) c.in-192.is
    ∙ ap Some (sym (c.from-in-192-2.ensures ∙ c.cast_unsigned-in-192.ensures ∙ bits32 c.from-in-192.result fits
    ∙ ap (unsigned 32) (c.from-in-192.ensures ∙ seen8 (c.args.n % 2 ^ 8) c.cast_signed-in-192.result (mod-lt c.args.n (pow_pos 8)) c.cast_signed-in-192.ensures)))

pub returns-in-193 : goal.returns-in-193
unfolding unary32
returns-in-193 c =
    let fits : SFits w32 c.from-in-193.result = search rules in
    ap (λ op. unary32 op c.args.n) c.in-193.is
    ∙ ap Some (sym (c.from-in-193-2.ensures ∙ c.cast_unsigned-in-193.ensures ∙ bits32 c.from-in-193.result fits
    ∙ ap (unsigned 32) (c.from-in-193.ensures ∙ seen16 (c.args.n % 2 ^ 16) c.cast_signed-in-193.result (mod-lt c.args.n (pow_pos 16)) c.cast_signed-in-193.ensures)))
