-- A graph without links is laid out as zeros.
use Rattle.std.proofs.Common.{◌≡◌, suc, ◌+◌, [], replicate, sym, ◌∙◌, ap, arith, List}
use Rattle.std.proofs.lemmas.List.{length-replicate}
use Rattle.ctw_flow.specs.declared.graph.Edge.{Edge}
use Rattle.ctw_flow.specs.Rows.{rows_of, IsPacked}
use Rattle.ctw_flow.proofs.Packed.{packed, none_rows, none_starts, none_graph}
use Rattle.ctw_flow.proofs.graph.Graph.new.Goals as goal

laid : (c : goal.After-new) → (rows_of c.in_ok-starts.starts.items c.new.result.items ≡ replicate c.args.nodes []) × IsPacked c.in_ok-starts.starts.items c.new.result.items
laid c = packed (replicate c.args.nodes []) c.in_ok-starts.starts.items c.new.result.items (none_graph c.args.nodes) (let l = length-replicate {A = List Edge} c.args.nodes [] in omega arith)
    (c.in_ok-starts.ensures.items_if_clones_equal (λ y e. e) ∙ ap (λ n. replicate n 0) one_more ∙ none_starts c.args.nodes) (c.new.ensures.items ∙ sym (none_rows c.args.nodes))
  where
    one_more : c.args.nodes + 1 ≡ suc c.args.nodes
    one_more = omega arith

pub invariant_of-result : goal.invariant_of-result
invariant_of-result c = (laid c).1

pub returns : goal.returns
returns c = (laid c).0
