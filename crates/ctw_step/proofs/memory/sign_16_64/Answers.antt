use Rattle.std.proofs.Common.{ap, ◌∙◌, SFits, w64, rules}
use Rattle.ctw_num.specs.Integers.{unsigned}
use Rattle.ctw_num.proofs.Signs.{seen16, bits64}
use Rattle.ctw_step.proofs.memory.sign_16_64.Goals as goal

pub returns : goal.returns
returns c =
    let fits : SFits w64 c.from.result = search rules in
    c.cast_unsigned.ensures ∙ bits64 c.from.result fits
    ∙ ap (unsigned 64) (c.from.ensures ∙ seen16 c.args.n c.cast_signed.result c.ranges.n.fits c.cast_signed.ensures)
