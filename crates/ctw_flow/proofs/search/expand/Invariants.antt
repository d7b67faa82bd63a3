-- The links that are left lead from the state here to the last one.
use Rattle.std.proofs.Common.{◌≡◌, length, drop}
use Rattle.ctw_flow.specs.Search.{visit_all}
use Rattle.ctw_flow.proofs.search.expand.Given as goal

abbrev pub invariant-loop-link : goal.invariant-loop-link
invariant-loop-link l = record {
  same : visit_all l.head (drop l.link-index l.links) (record { seen = l.seen.items; queue = l.queue.items }) ≡ visit_all l.head l.links (record { seen = l.initial.seen.items; queue = l.initial.queue.items });
  sized : length l.seen.items ≡ length l.initial.seen.items;
}
