use Rattle.std.proofs.Common.{ℕ, ◌<◌, List, length, MatchOption, ◌∙◌, sym, ap, subst}
use Rattle.std.specs.Prelude.{All}
use Rattle.ctw_flow.specs.Path.{Leads, IsLeastPath}
use Rattle.ctw_infer.specs.Searched.{IsReachedLabelling}
use Rattle.ctw_infer.proofs.Labels.{all_below, last_below, one_leads, path_within, reached_labels}
use Rattle.ctw_infer.proofs.search.search.Goals as goal

pub returns-then-not-is_met-clause-reached : goal.returns-then-not-is_met-clause-reached
returns-then-not-is_met-clause-reached c =
    subst (λ g. IsReachedLabelling g c.args.starts.now c.args.goals.now c.in_ok-labels.labels) c.graph-graph.ensures
    (reached_labels c.graph-graph.result.now c.args.starts.now c.args.goals.now c.in_ok-reached.reached c.in_ok-reached.ensures.reached c.in_ok-labels.labels
    (c.in_ok-labels.ensures.sized ∙ sym c.requires.nodes ∙ sym (ap length c.graph-graph.ensures)) c.in_ok-labels.ensures.labels
    (c.is_met.ensures.unmet c.if-not-is_met.true))

pub unreachable-requires : goal.unreachable-requires
unreachable-requires c =
    let g = c.graph-graph.result.now in
    let starts = c.args.starts.now in
    let goals = c.args.goals.now in
    let none = subst (λ o. MatchOption o ((nodes : List ℕ) → Leads g starts goals nodes → ⊥) (λ path. IsLeastPath g starts goals path)) c.in_default.is c.in_ok-path.ensures in
    let met = c.is_met.ensures.met c.if-not-is_met.false in
    let l = one_leads g starts goals c.in_ok-reached.reached c.in_ok-reached.ensures.reached met.0 met.1 met.2 in
    none l.0 l.1

pub witness-requires : goal.witness-requires
witness-requires c =
    let g = c.graph-graph.result.now in
    let starts = c.args.starts.now in
    let goals = c.args.goals.now in
    let least = subst (λ o. MatchOption o ((nodes : List ℕ) → Leads g starts goals nodes → ⊥) (λ path. IsLeastPath g starts goals path)) c.in-Some.is c.in_ok-path.ensures in
    last_below g starts goals c.in-Some.path.nodes (length c.args.links.now.musts) least.leads
    (all_below (length c.args.links.now.musts) (length c.args.s.now) c.requires.places goals c.requires.goals)

pub returns-clause-within : goal.returns-clause-within
returns-clause-within c =
    let g = c.graph-graph.result.now in
    let starts = c.args.starts.now in
    let goals = c.args.goals.now in
    let least = subst (λ o. MatchOption o ((nodes : List ℕ) → Leads g starts goals nodes → ⊥) (λ path. IsLeastPath g starts goals path)) c.in-Some.is c.in_ok-path.ensures in
    subst (λ l. All (λ n. n < length c.args.s.now) l) (sym c.in_ok-flow.ensures.nodes)
    (path_within g goals c.in-Some.path.nodes (length c.args.s.now) (ap length c.graph-graph.ensures ∙ c.requires.nodes) c.requires.goals least.leads.0 least.leads.2)
