use Rattle.std.proofs.Common.{arith}
use Rattle.ctw_module.specs.Trees.{tree}
use Rattle.ctw_strip.proofs.Mapped.{counts_one, counts_none}
use Rattle.ctw_strip.proofs.section.kept_count.Goals as goal
use Rattle.ctw_strip.proofs.section.kept_count.Goals.{then-is_none, else-is_none}

pub loop-i-preserved : goal.loop-i-preserved
loop-i-preserved c =
    elim c.if-is_none.branch [
      | then-is_none w ↦ record {
        counted = omega (arith, w.count-is, c.loop-i.invariant.counted, counts_one (tree c.args.m.now).types c.loop-i.i c.variant_of.result c.variant_of.ensures w.if-is_none.ensures);
        few = omega (arith, w.count-is, c.loop-i.invariant.few);
      }
      | else-is_none w ↦ record {
        counted = omega (arith, w.count-is, c.loop-i.invariant.counted, counts_none (tree c.args.m.now).types c.loop-i.i c.variant_of.result c.variant_of.ensures w.if-is_none.ensures);
        few = omega (arith, w.count-is, c.loop-i.invariant.few);
      }
    ]
