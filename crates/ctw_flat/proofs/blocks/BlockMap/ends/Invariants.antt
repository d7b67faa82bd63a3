use Rattle.std.proofs.Common.{◌-◌}
use Rattle.ctw_flat.proofs.Halves.{Halved}
use Rattle.ctw_flat.proofs.blocks.BlockMap.ends.Given as goal

-- a block that begins at the place stands between the two indexes
abbrev pub invariant-halves : goal.invariant-halves
invariant-halves l = Halved l.found l.at l.low l.high

abbrev pub decreases-halves : goal.decreases-halves
decreases-halves l = l.high - l.low
