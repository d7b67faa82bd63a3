-- The targets before `low` are below the node, and those from `high` on aren't.
use Rattle.std.proofs.Common.{◌-◌, ℕ, ◌<◌, ◌≤◌, length, get_or}
use Rattle.ctw_flow.specs.declared.graph.Edge.{Edge}
use Rattle.ctw_flow.proofs.graph.place_of.Given as goal

abbrev pub invariant-loop-low : goal.invariant-loop-low
invariant-loop-low l = record {
  ordered : l.low ≤ l.high;
  within : l.high ≤ length l.row;
  below : (k : ℕ) (d : Edge) → k < l.low → (get_or l.row k d).to < l.to;
  above : (k : ℕ) (d : Edge) → l.high ≤ k → k < length l.row → l.to ≤ (get_or l.row k d).to;
}

abbrev pub decreases-loop-low : goal.decreases-loop-low
decreases-loop-low l = l.high - l.low
