use Rattle.std.proofs.Common.{sym, arith}
use Rattle.ctw_module.specs.Trees.{tree}
use Rattle.ctw_write.proofs.Listed.{customs_begin, customs_next, customs_end, custom_short}
use Rattle.ctw_write.proofs.Shorter.{customs_short}
use Rattle.ctw_write.proofs.section.put_customs.Goals as goal

pub loop-i-init : goal.loop-i-init
loop-i-init c = customs_begin (tree c.args.m.now).customs c.args.place c.args.out.now.items

pub put_placed-requires : goal.put_placed-requires
put_placed-requires c = omega (arith, custom_short (tree c.args.m.now).customs c.args.place c.loop-i.i c.in-Some.custom (sym c.in-Some.ensures), customs_short (tree c.args.m.now) c.args.place c.requires.place c.requires.short)

pub loop-i-preserved : goal.loop-i-preserved
loop-i-preserved c =
    customs_next (tree c.args.m.now).customs c.args.place c.loop-i.i c.in-Some.custom c.args.out.now.items c.loop-i.out.items c.put_placed.new.out.items (sym c.in-Some.ensures) c.in_ok-put_placed.ensures c.loop-i.invariant

pub returns : goal.returns
returns c =
    customs_end (tree c.args.m.now).customs c.args.place c.loop-i.i c.args.out.now.items c.loop-i.out.items (omega (arith, c.custom_count-i-end.ensures, c.loop-i-test.false)) c.loop-i.invariant
