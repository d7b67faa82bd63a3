use Rattle.std.specs.Prelude.{◌≡◌, take}
use Rattle.ctw_infer.proofs.witness.nodes.Given as goal

abbrev pub invariant-nodes : goal.invariant-nodes
invariant-nodes l = l.nodes.items ≡ take l.i l.path.nodes
