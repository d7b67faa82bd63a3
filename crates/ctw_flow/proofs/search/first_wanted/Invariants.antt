-- No entry so far is wanted.
use Rattle.ctw_flow.specs.Search.{NoneBelow}
use Rattle.ctw_flow.proofs.search.first_wanted.Given as goal

abbrev pub invariant-loop-i : goal.invariant-loop-i
invariant-loop-i l = NoneBelow l.queue l.wanted l.i
