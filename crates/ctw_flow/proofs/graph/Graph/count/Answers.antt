-- The rows begin in one place more than there are rows.
use Rattle.std.proofs.Common.{length, ap, arith}
use Rattle.ctw_flow.proofs.Packed.{starts_count}
use Rattle.ctw_flow.proofs.graph.Graph.count.Goals as goal

pub returns-clause-count : goal.returns-clause-count
returns-clause-count c =
    let l = starts_count c.self.inside.starts.items c.self.inside.edges.items c.self.invariant in
    let e = ap length c.self.view_is in
    let n = c.len.ensures in
    omega (arith, l, e, n)
