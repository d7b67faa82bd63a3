use Rattle.std.specs.Prelude.{◌≡◌, ◌-◌, take}
use Rattle.ctw_infer.proofs.witness.rules.Given as goal

abbrev pub invariant-nodes : goal.invariant-nodes
invariant-nodes l = l.rules.items ≡ take (l.i - 1) l.path.rules
