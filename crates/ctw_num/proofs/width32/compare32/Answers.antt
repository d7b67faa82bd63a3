-- Answers of `compare32`: the signed views that the code compares.
use Rattle.std.proofs.Common.{Some, sym, ap, ap₂, ◌∙◌, int_lt, int_le}
use Rattle.ctw_num.specs.Integers.{truth}
use Rattle.ctw_num.specs.Values.{comparison32}
use Rattle.ctw_num.proofs.Signs.{seen32}
use Rattle.ctw_num.proofs.width32.compare32.Goals as goal

pub returns-in-72 : goal.returns-in-72
unfolding comparison32
returns-in-72 c =
    ap (λ op. comparison32 op c.args.a c.args.b) c.in-72.is
    ∙ ap Some (sym (ap truth (ap₂ int_lt (seen32 c.args.a c.cast_signed.result c.ranges.a.fits c.cast_signed.ensures) (seen32 c.args.b c.cast_signed-in-72.result c.ranges.b.fits c.cast_signed-in-72.ensures))))

pub returns-in-74 : goal.returns-in-74
unfolding comparison32
returns-in-74 c =
    ap (λ op. comparison32 op c.args.a c.args.b) c.in-74.is
    ∙ ap Some (sym (ap truth (ap₂ int_lt (seen32 c.args.b c.cast_signed-in-74-2.result c.ranges.b.fits c.cast_signed-in-74-2.ensures) (seen32 c.args.a c.cast_signed-in-74.result c.ranges.a.fits c.cast_signed-in-74.ensures))))

pub returns-in-76 : goal.returns-in-76
unfolding comparison32
returns-in-76 c =
    ap (λ op. comparison32 op c.args.a c.args.b) c.in-76.is
    ∙ ap Some (sym (ap truth (ap₂ int_le (seen32 c.args.a c.cast_signed-in-76.result c.ranges.a.fits c.cast_signed-in-76.ensures) (seen32 c.args.b c.cast_signed-in-76-2.result c.ranges.b.fits c.cast_signed-in-76-2.ensures))))

pub returns-in-78 : goal.returns-in-78
unfolding comparison32
returns-in-78 c =
    ap (λ op. comparison32 op c.args.a c.args.b) c.in-78.is
    ∙ ap Some (sym (ap truth (ap₂ int_le (seen32 c.args.b c.cast_signed-in-78-2.result c.ranges.b.fits c.cast_signed-in-78-2.ensures) (seen32 c.args.a c.cast_signed-in-78.result c.ranges.a.fits c.cast_signed-in-78.ensures))))
