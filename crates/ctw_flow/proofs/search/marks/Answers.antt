use Rattle.std.proofs.Common.{subst}
use Rattle.std.proofs.lemmas.List.{take_all}
use Rattle.ctw_flow.specs.Search.{AreMarks}
use Rattle.ctw_flow.proofs.Queue.{marks_step}
use Rattle.ctw_flow.proofs.search.marks.Goals as goal

pub loop-node-preserved : goal.loop-node-preserved
loop-node-preserved c = marks_step c.args.listed.now c.args.nodes c.loop-node.node-index 0 c.loop-node.seen.items c.loop-node-test.true (c.requires c.loop-node.node-index 0 c.loop-node-test.true) c.loop-node.invariant

pub returns : goal.returns
returns c = subst (λ z. AreMarks z c.args.nodes c.loop-node.seen.items) (take_all c.loop-node.node-index c.args.listed.now c.loop-node-test.false) c.loop-node.invariant
