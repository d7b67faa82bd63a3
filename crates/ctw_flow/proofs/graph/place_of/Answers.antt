-- Half of the places that are left fall away.
use Rattle.std.proofs.Common.{◌<◌, ◌+◌, ◌-◌, ◌/◌, arith}
use Rattle.ctw_flow.proofs.Rows.{below_middle, above_middle}
use Rattle.ctw_flow.proofs.graph.place_of.Goals as goal

pub loop-low-preserved-then-row-middle : goal.loop-low-preserved-then-row-middle
loop-low-preserved-then-row-middle c =
    let l : c.loop-low.low < c.loop-low.high = c.loop-low-test.true in
    record {
      ordered = omega arith;
      within = c.loop-low.invariant.within;
      below = below_middle c.args.row.now c.args.to (c.loop-low.low + (c.loop-low.high - c.loop-low.low) / 2) (record { to = 0; rule = 0 }) c.requires (let w = c.loop-low.invariant.within in omega arith) c.if-row-middle.true;
      above = c.loop-low.invariant.above;
    }

pub loop-low-preserved : goal.loop-low-preserved
loop-low-preserved c =
    let l : c.loop-low.low < c.loop-low.high = c.loop-low-test.true in
    record {
      ordered = omega arith;
      within = let w = c.loop-low.invariant.within in omega arith;
      below = c.loop-low.invariant.below;
      above = above_middle c.args.row.now c.args.to (c.loop-low.low + (c.loop-low.high - c.loop-low.low) / 2) (record { to = 0; rule = 0 }) c.requires c.if-row-middle.false;
    }
