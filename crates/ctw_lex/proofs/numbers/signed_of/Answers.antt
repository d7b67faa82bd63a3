use Rattle.std.proofs.Common.{◌≡◌, ◌==◌, true, false, slice_index, ◌∙◌}
use Rattle.ctw_lex.proofs.NumberLaws.{signed_plus, signed_minus}
use Rattle.ctw_lex.proofs.numbers.signed_of.Goals as goal

pub returns-then-begins_with : goal.returns-then-begins_with
returns-then-begins_with c =
    let e : (slice_index c.args.bytes.now 0 == 43) ≡ true = cc in
    c.with_sign.ensures ∙ signed_plus c.args.bytes.now e

pub returns-then-begins_with-2 : goal.returns-then-begins_with-2
returns-then-begins_with-2 c =
    let e : (slice_index c.args.bytes.now 0 == 43) ≡ false = cc in
    let f : (slice_index c.args.bytes.now 0 == 45) ≡ true = cc in
    c.with_sign-then-begins_with-2.ensures ∙ signed_minus c.args.bytes.now e f
