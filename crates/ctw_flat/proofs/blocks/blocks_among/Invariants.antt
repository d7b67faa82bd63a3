use Rattle.std.proofs.Common.{◌≡◌, ◌≤◌, drop, length, reverse}
use Rattle.ctw_flat.specs.Marks.{closings_in, blocks_in}
use Rattle.ctw_flat.proofs.blocks.blocks_among.Given as goal

-- what the marks behind the reached one tell
abbrev pub invariant-back : goal.invariant-back
invariant-back l = record {
  inside : l.left ≤ length l.marks;
  closings : reverse l.closings.items ≡ closings_in (drop l.left l.marks);
  blocks : reverse l.found.items ≡ blocks_in (drop l.left l.marks);
}

abbrev pub decreases-back : goal.decreases-back
decreases-back l = l.left
