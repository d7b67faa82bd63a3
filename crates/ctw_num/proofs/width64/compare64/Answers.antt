-- Answers of `compare64`: the signed views that the code compares.
use Rattle.std.proofs.Common.{Some, sym, ap, ap₂, ◌∙◌, int_lt, int_le}
use Rattle.ctw_num.specs.Integers.{truth}
use Rattle.ctw_num.specs.Values.{comparison64}
use Rattle.ctw_num.proofs.Signs.{seen64}
use Rattle.ctw_num.proofs.width64.compare64.Goals as goal

pub returns-in-83 : goal.returns-in-83
unfolding comparison64
returns-in-83 c =
    ap (λ op. comparison64 op c.args.a c.args.b) c.in-83.is
    ∙ ap Some (sym (ap truth (ap₂ int_lt (seen64 c.args.a c.cast_signed.result c.ranges.a.fits c.cast_signed.ensures) (seen64 c.args.b c.cast_signed-in-83.result c.ranges.b.fits c.cast_signed-in-83.ensures))))

pub returns-in-85 : goal.returns-in-85
unfolding comparison64
returns-in-85 c =
    ap (λ op. comparison64 op c.args.a c.args.b) c.in-85.is
    ∙ ap Some (sym (ap truth (ap₂ int_lt (seen64 c.args.b c.cast_signed-in-85-2.result c.ranges.b.fits c.cast_signed-in-85-2.ensures) (seen64 c.args.a c.cast_signed-in-85.result c.ranges.a.fits c.cast_signed-in-85.ensures))))

pub returns-in-87 : goal.returns-in-87
unfolding comparison64
returns-in-87 c =
    ap (λ op. comparison64 op c.args.a c.args.b) c.in-87.is
    ∙ ap Some (sym (ap truth (ap₂ int_le (seen64 c.args.a c.cast_signed-in-87.result c.ranges.a.fits c.cast_signed-in-87.ensures) (seen64 c.args.b c.cast_signed-in-87-2.result c.ranges.b.fits c.cast_signed-in-87-2.ensures))))

pub returns-in-89 : goal.returns-in-89
unfolding comparison64
returns-in-89 c =
    ap (λ op. comparison64 op c.args.a c.args.b) c.in-89.is
    ∙ ap Some (sym (ap truth (ap₂ int_le (seen64 c.args.b c.cast_signed-in-89-2.result c.ranges.b.fits c.cast_signed-in-89-2.ensures) (seen64 c.args.a c.cast_signed-in-89.result c.ranges.a.fits c.cast_signed-in-89.ensures))))
