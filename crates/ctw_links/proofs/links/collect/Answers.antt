use Rattle.std.proofs.Common.{◌≡◌, ◌∙◌, ℕ, ◌<◌, length, replicate, sym, ap, subst, arith}
use Rattle.std.proofs.lemmas.List.{length-replicate}
use Rattle.std.specs.List.{AllByRecursion}
use Rattle.std.specs.Prelude.{◌↔◌, All, Contains}
use Rattle.ctw_module.specs.Trees.{view_module}
use Rattle.ctw_flow.specs.Graph.{row, IsLeastRule}
use Rattle.ctw_flow.proofs.Added.{graph_long}
use Rattle.ctw_labels.specs.Links.{musts_of}
use Rattle.ctw_labels.specs.ModuleLinks.{links}
use Rattle.ctw_labels.specs.SitedModule.{sites}
use Rattle.ctw_labels.proofs.Right.{links_right}
use Rattle.ctw_links.specs.Collected.{FactIn}
use Rattle.ctw_links.proofs.CollectLaws.{links_kept, links_within, musts_kept}
use Rattle.ctw_links.proofs.GraphLaws.{graph_law}
use Rattle.ctw_links.proofs.MustLaws.{musts_length}
use Rattle.ctw_links.proofs.ModuleWithin.{all_facts_in}
use Rattle.ctw_links.proofs.links.collect.Goals as goal

pub returns-in_err-told-clause-right : goal.returns-in_err-told-clause-right
returns-in_err-told-clause-right c = links_right (view_module c.args.m.now) (c.requires.valid.formed.plain c.requires.plain) c.requires.valid c.args.p.now

pub returns-in_err-link_yields-clause-right : goal.returns-in_err-link_yields-clause-right
returns-in_err-link_yields-clause-right c = links_right (view_module c.args.m.now) (c.requires.valid.formed.plain c.requires.plain) c.requires.valid c.args.p.now

pub returns-in_err-link_facts-clause-right : goal.returns-in_err-link_facts-clause-right
returns-in_err-link_facts-clause-right c = links_right (view_module c.args.m.now) (c.requires.valid.formed.plain c.requires.plain) c.requires.valid c.args.p.now

pub returns-in_err-musts-clause-right : goal.returns-in_err-musts-clause-right
returns-in_err-musts-clause-right c = links_right (view_module c.args.m.now) (c.requires.valid.formed.plain c.requires.plain) c.requires.valid c.args.p.now

pub returns-in_err-graph-clause-right : goal.returns-in_err-graph-clause-right
returns-in_err-graph-clause-right c = links_right (view_module c.args.m.now) (c.requires.valid.formed.plain c.requires.plain) c.requires.valid c.args.p.now

pub returns-clause-right : goal.returns-clause-right
returns-clause-right c = links_right (view_module c.args.m.now) (c.requires.valid.formed.plain c.requires.plain) c.requires.valid c.args.p.now

pub musts_of_facts-requires : goal.musts_of_facts-requires
musts_of_facts-requires c =
    let m = view_module c.args.m.now in
    let pl = c.requires.valid.formed.plain c.requires.plain in
    let counted = c.count-count.ensures.count ∙ ap length c.requires.sites in
    let told = c.deref-2.ensures.value ∙ c.in_ok-told.ensures in
    subst (λ n. AllByRecursion (FactIn n) c.deref-2.result.now) (sym counted)
    (subst (AllByRecursion (FactIn (length (sites m)))) (sym told) (all_facts_in m (length (sites m)) (omega arith) pl c.requires.valid))

pub from_rows-requires : goal.from_rows-requires
from_rows-requires c =
    let m = view_module c.args.m.now in
    let pl = c.requires.valid.formed.plain c.requires.plain in
    let counted = c.count-count.ensures.count ∙ ap length c.requires.sites in
    let kept = links_kept m pl c.args.p.now c.args.s.now c.new-links.result.items c.link_yields.new.links.items c.link_facts.new.links.items c.deref.result.now c.requires.sites
    c.new-links.ensures.items c.in_ok-link_yields.ensures c.in_ok-link_facts.ensures (c.deref.ensures.value ∙ c.in_ok-told.ensures) in
    subst (λ n. All (λ l. (l.0 < n) × (l.1 < n)) c.link_facts.new.links.items) (sym counted)
    (links_within m pl c.args.p.now c.requires.valid c.link_facts.new.links.items kept)

pub returns-clause-graph : goal.returns-clause-graph
returns-clause-graph c =
    let m = view_module c.args.m.now in
    let pl = c.requires.valid.formed.plain c.requires.plain in
    let kept = links_kept m pl c.args.p.now c.args.s.now c.new-links.result.items c.link_yields.new.links.items c.link_facts.new.links.items c.deref.result.now c.requires.sites
    c.new-links.ensures.items c.in_ok-link_yields.ensures c.in_ok-link_facts.ensures (c.deref.ensures.value ∙ c.in_ok-told.ensures) in
    graph_law (links m c.args.p.now) c.in_ok-graph.graph
    (subst (λ ls. (a b r : ℕ) → Contains (row c.in_ok-graph.graph a) (record { to = b; rule = r }) ↔ IsLeastRule ls a b r) kept c.in_ok-graph.ensures.least)

pub returns-clause-nodes : goal.returns-clause-nodes
returns-clause-nodes c =
    ap length c.in_ok-graph.ensures.added
    ∙ graph_long c.count-count.result c.link_facts.new.links.items
    ∙ c.count-count.ensures.count ∙ ap length c.requires.sites

pub returns-clause-few : goal.returns-clause-few
returns-clause-few c =
    ap length c.in_ok-musts.ensures
    ∙ musts_length (replicate c.count-count.result 0) (musts_of c.deref-2.result.now)
    ∙ length-replicate c.count-count.result 0
    ∙ c.count-count.ensures.count ∙ ap length c.requires.sites

pub returns-clause-musts : goal.returns-clause-musts
returns-clause-musts c =
    let m = view_module c.args.m.now in
    let pl = c.requires.valid.formed.plain c.requires.plain in
    let counted = c.count-count.ensures.count ∙ ap length c.requires.sites in
    musts_kept m pl c.args.p.now c.requires.valid c.count-count.result c.deref-2.result.now c.in_ok-musts.musts.items counted (c.deref-2.ensures.value ∙ c.in_ok-told.ensures) c.in_ok-musts.ensures
