-- A step takes one link off those that are left, and visits its target.
use Rattle.std.proofs.Common.{◌≡◌, length, get_or, true, false, sym, ap, ◌∙◌}
use Rattle.std.proofs.Common.{◌<◌, arith}
use Rattle.std.proofs.lemmas.List.{length-set, get_or_default}
use Rattle.ctw_flow.specs.declared.graph.Edge.{Edge}
use Rattle.ctw_flow.specs.Search.{visit}
use Rattle.ctw_flow.proofs.search.expand.Goals as goal
use Rattle.ctw_flow.proofs.search.expand.Goals.{then-not-index+in_ok-push, else-not-index}
use Rattle.ctw_flow.proofs.Visits.{visit_seen, visit_new, visit_step}

pub loop-link-preserved : goal.loop-link-preserved
loop-link-preserved c =
    let d : Edge = record { to = 0; rule = 0 } in
    let e : Edge = get_or c.args.links.now c.loop-link.link-index d in
    let h : e.to < length c.loop-link.seen.items = let r : e.to < length c.args.seen.now.items = c.requires c.loop-link.link-index d c.loop-link-test.true in omega (arith, r, c.loop-link.invariant.sized) in
    let k : get_or c.loop-link.seen.items e.to false ≡ c.index.result.now = get_or_default c.loop-link.seen.items e.to false c.index.result.now h ∙ sym c.index.ensures in
    elim c.if-not-index.branch [
      | then-not-index+in_ok-push w ↦
          let v : visit c.args.head e (record { seen = c.loop-link.seen.items; queue = c.loop-link.queue.items }) ≡ record { seen = c.if-not-index.seen.items; queue = c.if-not-index.queue.items } =
          visit_new c.args.head e c.loop-link.seen.items c.loop-link.queue.items (k ∙ w.if-not-index.true)
          ∙ (λ i. record { seen = (sym w.seen-is i).items; queue = (sym w.in_ok-push.ensures.items ∙ ap (λ z. z.items) (sym w.queue-is)) i }) in
          record {
            same = visit_step c.args.head c.args.links.now c.loop-link.link-index d _ _ _ c.loop-link-test.true c.loop-link.invariant.same v;
            sized = ap (λ z. length z.items) w.seen-is ∙ length-set c.loop-link.seen.items e.to true ∙ c.loop-link.invariant.sized;
          }
      | else-not-index w ↦
          let v : visit c.args.head e (record { seen = c.loop-link.seen.items; queue = c.loop-link.queue.items }) ≡ record { seen = c.if-not-index.seen.items; queue = c.if-not-index.queue.items } =
          visit_seen c.args.head e c.loop-link.seen.items c.loop-link.queue.items (k ∙ w.if-not-index.false)
          ∙ (λ i. record { seen = (sym w.seen-is i).items; queue = (sym w.queue-is i).items }) in
          record {
            same = visit_step c.args.head c.args.links.now c.loop-link.link-index d _ _ _ c.loop-link-test.true c.loop-link.invariant.same v;
            sized = ap (λ z. length z.items) w.seen-is ∙ c.loop-link.invariant.sized;
          }
    ]
