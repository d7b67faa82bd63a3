-- The row is the one of the graph.
use Rattle.std.proofs.Common.{List, ◌≡◌, subst}
use Rattle.std.specs.Prelude.{Contains, MatchOption}
use Rattle.ctw_flow.specs.declared.graph.Edge.{Edge}
use Rattle.ctw_flow.proofs.graph.Graph.rule.Goals as goal

pub returns : goal.returns
returns c = subst (λ (z : List Edge). MatchOption c.find_link.result ((e : Edge) × Contains z e × (e.to ≡ c.args.to) → ⊥) (λ r. Contains z (record { to = c.args.to; rule = r }))) c.row.ensures.links c.find_link.ensures
