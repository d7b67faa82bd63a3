use Rattle.ctw_valid.proofs.OnStack.{IsLeft}
use Rattle.ctw_valid.proofs.operands.expect_params.Given as goal

-- the parameters that are still to be taken are the first ones
abbrev pub invariant-back : goal.invariant-back
invariant-back l = IsLeft l.params l.left l.fn.stack l.stack

abbrev pub decreases-back : goal.decreases-back
decreases-back l = l.left
