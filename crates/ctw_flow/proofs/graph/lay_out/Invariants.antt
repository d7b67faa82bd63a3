-- What the links so far make is laid out.
use Rattle.std.proofs.Common.{◌≡◌, length, map, take}
use Rattle.ctw_flow.specs.Graph.{graph_of}
use Rattle.ctw_flow.specs.Rows.{all_of}
use Rattle.ctw_flow.proofs.graph.lay_out.Given as goal

abbrev pub invariant-links : goal.invariant-links
invariant-links l = record {
  edges : l.edges.items ≡ all_of (graph_of (length l.fn.counts) (take l.i l.sorted));
  counts : l.counts ≡ map (λ r. length r) (graph_of (length l.fn.counts) (take l.i l.sorted));
}
