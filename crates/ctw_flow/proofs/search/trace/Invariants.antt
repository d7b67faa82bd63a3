-- What was read so far, followed by what leads from here to a root, leads from the place to a root.
use Rattle.std.proofs.Common.{◌≡◌, ◌≤◌, ◌+◌, ℕ, List, ◌<◌, ◌++◌, length}
use Rattle.ctw_flow.specs.Search.{IsPos, IsRuled}
use Rattle.ctw_flow.proofs.search.trace.Given as goal

abbrev pub invariant-loop-at : goal.invariant-loop-at
invariant-loop-at l = record {
  within : l.at < length l.queue;
  even : length l.nodes.items ≡ length l.rules.items;
  short : length l.nodes.items + l.at ≤ l.place;
  nodes : (t : List ℕ) → IsPos l.queue l.roots l.at t → IsPos l.queue l.roots l.place (l.nodes.items ++ t);
  rules : (t : List ℕ) → IsRuled l.queue l.roots l.at t → IsRuled l.queue l.roots l.place (l.rules.items ++ t);
}

abbrev pub decreases-loop-at : goal.decreases-loop-at
decreases-loop-at l = l.at
