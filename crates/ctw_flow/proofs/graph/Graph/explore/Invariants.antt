-- The search so far; each step follows the links of one entry, and the nodes not seen and the entries left are fewer.
use Rattle.std.proofs.Common.{◌≡◌, ◌≤◌, ◌+◌, ◌-◌, length}
use Rattle.ctw_flow.specs.Search.{IsSearch, unseen}
use Rattle.ctw_flow.proofs.graph.Graph.explore.Given as goal

abbrev pub invariant-loop-head : goal.invariant-loop-head
invariant-loop-head l = record {
  search : IsSearch l.self l.starts l.roots l.head l.head (record { seen = l.seen.items; queue = l.queue.items });
  total : unseen l.seen.items + length l.queue.items ≡ length l.self;
  within : l.head ≤ length l.queue.items;
}

abbrev pub decreases-loop-head : goal.decreases-loop-head
decreases-loop-head l = unseen l.seen.items + (length l.queue.items - l.head)
