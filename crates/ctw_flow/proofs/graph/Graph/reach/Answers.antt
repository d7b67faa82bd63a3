-- The seen nodes of a search that is done are those that are reached.
use Rattle.std.proofs.Common.{◌≡◌, length, List, Bool, Some, true, subst, sym, ◌∙◌}
use Rattle.std.specs.Prelude.{◌↔◌, slice_get}
use Rattle.ctw_flow.specs.Path.{Reached}
use Rattle.ctw_flow.proofs.Trails.{seen_reached}
use Rattle.ctw_flow.proofs.graph.Graph.reach.Goals as goal

pub returns-clause-reached : goal.returns-clause-reached
returns-clause-reached c = λ n.
    let r = c.in_ok-seen.field-0 in
    subst (λ (m : List Bool). (slice_get m n ≡ Some true) ↔ Reached c.args.self.now c.args.starts.now n) (sym (c.in_ok-marked.ensures ∙ c.as_slice.ensures.value))
    (seen_reached c.args.self.now c.args.starts.now r.roots (length r.queue.items) (record { seen = r.seen.items; queue = r.queue.items }) c.in_ok-seen.ensures.search n)
