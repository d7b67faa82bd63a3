use Rattle.std.proofs.Common.{ap, ◌∙◌, SFits, w32, rules}
use Rattle.ctw_num.specs.Integers.{unsigned}
use Rattle.ctw_num.proofs.Signs.{seen16, bits32}
use Rattle.ctw_step.proofs.memory.sign_16_32.Goals as goal

pub returns : goal.returns
returns c =
    let fits : SFits w32 c.from.result = search rules in
    c.from-2.ensures ∙ c.cast_unsigned.ensures ∙ bits32 c.from.result fits
    ∙ ap (unsigned 32) (c.from.ensures ∙ seen16 c.args.n c.cast_signed.result c.ranges.n.fits c.cast_signed.ensures)
