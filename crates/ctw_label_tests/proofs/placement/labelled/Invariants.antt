-- Each site has a label.
use Rattle.std.proofs.Common.{◌≡◌, length}
use Rattle.ctw_label_tests.proofs.placement.labelled.Given as goal

abbrev pub invariant-loop-site : goal.invariant-loop-site
invariant-loop-site g l = length l.l ≡ length l.s
