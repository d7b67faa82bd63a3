-- Each step follows the links of one entry.
use Rattle.std.proofs.Common.{◌≡◌, ◌<◌, length, ◌∙◌, ap, subst, arith}
use Rattle.ctw_flow.specs.Search.{State, IsSearch, root_entries}
use Rattle.ctw_flow.proofs.Begin.{begin_at, begin_total, here_at, in_graph, IsStep, stepped}
use Rattle.ctw_flow.proofs.graph.Graph.explore.Goals as goal

pub loop-head-init : goal.loop-head-init
loop-head-init c = record {
  search = begin_at c.args.self.now c.args.starts.now _ c.in_ok-seen.seen.items c.in_ok-queue.queue.items c.len-roots.result c.count-nodes.ensures.count c.in_ok-seen.ensures (c.in_ok-queue.ensures ∙ ap (λ z. root_entries z 0) c.deref.ensures.value) (omega (arith, c.len-roots.ensures, c.in_ok-queue.queue.ok));
  total = begin_total c.args.starts.now (length c.args.self.now) _ c.in_ok-seen.seen.items c.in_ok-queue.queue.items c.count-nodes.ensures.count c.in_ok-seen.ensures (c.in_ok-queue.ensures ∙ ap (λ z. root_entries z 0) c.deref.ensures.value);
  within = omega arith;
}

pub row-requires : goal.row-requires
row-requires c =
    let s : State = record { seen = c.loop-head.seen.items; queue = c.loop-head.queue.items } in
    let l : c.loop-head.head < length c.loop-head.queue.items = omega arith in
    in_graph c.args.self.now c.args.starts.now c.len-roots.result c.loop-head.head c.loop-head.head s c.loop-head.invariant.search c.loop-head.head c.index.result.now (here_at c.loop-head.queue.items c.loop-head.head c.index.result.now l c.index.ensures)

step : (c : goal.In_ok-expand) → IsStep c.args.self.now c.args.starts.now c.len-roots.result c.loop-head.head (record { seen = c.loop-head.seen.items; queue = c.loop-head.queue.items }) (record { seen = c.expand.new.seen.items; queue = c.expand.new.queue.items })
step c =
    let l : c.loop-head.head < length c.loop-head.queue.items = omega arith in
    stepped c.args.self.now c.args.starts.now c.len-roots.result c.loop-head.head _ _ c.index.result.now c.row.result.now c.count-nodes.ensures.graph c.loop-head.invariant.search l c.index.ensures c.row.ensures.links c.in_ok-expand.ensures

pub loop-head-smaller : goal.loop-head-smaller
loop-head-smaller c =
    let a = (step c).same in
    let b = (step c).grows in
    let l : c.loop-head.head < length c.loop-head.queue.items = omega arith in
    omega arith

pub loop-head-preserved : goal.loop-head-preserved
loop-head-preserved c = record {
  search = (step c).search;
  total = let a = (step c).same in let t = c.loop-head.invariant.total in omega arith;
  within = let b = (step c).grows in let l : c.loop-head.head < length c.loop-head.queue.items = omega arith in omega arith;
}

pub returns-clause-search : goal.returns-clause-search
returns-clause-search c =
    let e : c.loop-head.head ≡ length c.loop-head.queue.items = omega (arith, c.loop-head.invariant.within) in
    subst (λ z. IsSearch c.args.self.now c.args.starts.now c.len-roots.result z z (record { seen = c.loop-head.seen.items; queue = c.loop-head.queue.items })) e c.loop-head.invariant.search

pub returns-clause-small : goal.returns-clause-small
returns-clause-small c = let t = c.loop-head.invariant.total in omega (arith, c.count-nodes.ensures.count, t)
