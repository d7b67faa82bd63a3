-- The sorted links are laid out as the graph that they make in any order.
use Rattle.std.proofs.Common.{◌≡◌, ℕ, List, length, replicate, sym, ◌∙◌, ap, subst, arith}
use Rattle.std.specs.Prelude.{All, sum_by}
use Rattle.std.proofs.lemmas.List.{length-replicate, with_items_is}
use Rattle.ctw_flow.specs.Graph.{graph_of}
use Rattle.ctw_flow.specs.Rows.{rows_of}
use Rattle.ctw_flow.specs.Sorted.{AreSorted}
use Rattle.ctw_flow.proofs.Added.{Within}
use Rattle.ctw_flow.proofs.Sorting.{within_others, sum_lengths, made, ruled_as}
use Rattle.ctw_flow.proofs.graph.Graph.from_rows.Goals as goal

pub lay_out-requires-clause-rising : goal.lay_out-requires-clause-rising
lay_out-requires-clause-rising c = subst AreSorted (sym c.as_slice.ensures.value) c.in_ok-sorted.ensures.sorted

nodes_of : (c : goal.After-as_mut_slice) → length c.as_mut_slice.result.now ≡ c.args.nodes
nodes_of c = ap (λ (l : List ℕ). length l) (c.as_mut_slice.ensures.value ∙ c.in_ok-counts.ensures.items_if_clones_equal (λ y e. e)) ∙ length-replicate c.args.nodes 0

within : (c : goal.After-as_mut_slice) → All (Within c.args.nodes) c.as_slice.result.now
within c = subst (All (Within c.args.nodes)) (sym c.as_slice.ensures.value) (within_others c.args.nodes c.args.links.items c.in_ok-sorted.sorted.items c.in_ok-sorted.ensures.same c.requires)

pub lay_out-requires-clause-below : goal.lay_out-requires-clause-below
lay_out-requires-clause-below c = subst (λ m. All (Within m) c.as_slice.result.now) (sym (nodes_of c)) (within c)

pub lay_out-requires-clause-none : goal.lay_out-requires-clause-none
lay_out-requires-clause-none c = zeros c.as_mut_slice.result.now c.args.nodes (c.as_mut_slice.ensures.value ∙ c.in_ok-counts.ensures.items_if_clones_equal (λ y e. e))
  where
    zeros : (l : List ℕ) (n : ℕ) → l ≡ replicate n 0 → l ≡ replicate (length l) 0
    zeros l n e = e ∙ ap (λ m. replicate m 0) (sym (ap (λ (z : List ℕ). length z) e ∙ length-replicate n 0))

pub sums-requires : goal.sums-requires
sums-requires c =
    let k : c.as_slice-2.result.now ≡ c.lay_out.new.counts = c.as_slice-2.ensures.value ∙ with_items_is c.in_ok-counts.counts c.lay_out.new.counts (c.lay_out.auto.counts ∙ c.as_mut_slice.ensures.len) in
    let e = ap (sum_by (λ (n : ℕ). n)) (k ∙ c.in_ok-edges.ensures.counts) ∙ sum_lengths (graph_of (length c.as_mut_slice.result.now) c.as_slice.result.now) in
    let f = ap length c.in_ok-edges.ensures.edges in
    let o = c.in_ok-edges.edges.ok in
    omega (arith, e, f, o)

pub invariant_of-result : goal.invariant_of-result
invariant_of-result c =
    let w = made c.args.nodes (length c.as_mut_slice.result.now) c.args.links.items c.in_ok-sorted.sorted.items c.as_slice.result.now c.in_ok-starts.starts.items c.as_slice-2.result.now c.in_ok-edges.edges.items (omega arith)
    (ap (λ (l : List ℕ). length l) (c.as_mut_slice.ensures.value ∙ c.in_ok-counts.ensures.items_if_clones_equal (λ y e. e)) ∙ length-replicate c.args.nodes 0)
    c.as_slice.ensures.value c.in_ok-sorted.ensures.same c.requires c.in_ok-starts.ensures
    (c.as_slice-2.ensures.value ∙ with_items_is c.in_ok-counts.counts c.lay_out.new.counts (c.lay_out.auto.counts ∙ c.as_mut_slice.ensures.len) ∙ c.in_ok-edges.ensures.counts) c.in_ok-edges.ensures.edges in
    w.1

the_graph : (c : goal.After-drop-sorted-2) → rows_of c.in_ok-starts.starts.items c.in_ok-edges.edges.items ≡ graph_of c.args.nodes c.args.links.items
the_graph c =
    let w = made c.args.nodes (length c.as_mut_slice.result.now) c.args.links.items c.in_ok-sorted.sorted.items c.as_slice.result.now c.in_ok-starts.starts.items c.as_slice-2.result.now c.in_ok-edges.edges.items (omega arith)
    (ap (λ (l : List ℕ). length l) (c.as_mut_slice.ensures.value ∙ c.in_ok-counts.ensures.items_if_clones_equal (λ y e. e)) ∙ length-replicate c.args.nodes 0)
    c.as_slice.ensures.value c.in_ok-sorted.ensures.same c.requires c.in_ok-starts.ensures
    (c.as_slice-2.ensures.value ∙ with_items_is c.in_ok-counts.counts c.lay_out.new.counts (c.lay_out.auto.counts ∙ c.as_mut_slice.ensures.len) ∙ c.in_ok-edges.ensures.counts) c.in_ok-edges.ensures.edges in
    w.0

pub returns-clause-added : goal.returns-clause-added
returns-clause-added c = the_graph c

pub returns-clause-least : goal.returns-clause-least
returns-clause-least c = ruled_as c.args.nodes c.args.links.items (rows_of c.in_ok-starts.starts.items c.in_ok-edges.edges.items) c.requires (the_graph c)
