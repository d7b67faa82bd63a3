-- The marks are those of the starts so far.
use Rattle.std.proofs.Common.{take}
use Rattle.ctw_flow.specs.Search.{AreMarks}
use Rattle.ctw_flow.proofs.search.marks.Given as goal

abbrev pub invariant-loop-node : goal.invariant-loop-node
invariant-loop-node l = AreMarks (take l.node-index l.listed) l.nodes l.seen.items
