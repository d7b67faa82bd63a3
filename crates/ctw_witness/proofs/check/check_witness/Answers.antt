use Rattle.std.proofs.Common.{◌≡◌, ◌<◌, ◌∙◌, ℕ, true, false, length, sym, ap, subst, rules, arith}
use Rattle.std.proofs.lemmas.Bool.{false≢true}
use Rattle.ctw_ops.specs.declared.types.Label.TheVariants.{Secret}
use Rattle.ctw_module.specs.Trees.{view_module}
use Rattle.ctw_labels.specs.Fits.{must_of}
use Rattle.ctw_labels.specs.ModuleLinks.{links, musts}
use Rattle.ctw_labels.specs.SitedModule.{sites}
use Rattle.ctw_least.specs.Flows.{IsMarked, IsGraphOf}
use Rattle.ctw_links.specs.Collected.{must_at}
use Rattle.ctw_least.specs.Marked.{marks_on}
use Rattle.ctw_least.specs.Flows.{last_of}
use Rattle.ctw_witness.specs.Checked.{IsReasonBy}
use Rattle.ctw_witness.proofs.FlowLaws.{checked, first_marked, last_reason, at_below, flow_below, last_is}
use Rattle.ctw_witness.proofs.MarkLaws.{marked_below}
use Rattle.ctw_witness.proofs.check.check_witness.Goals as goal

pub returns-then-not-are_sites : goal.returns-then-not-are_sites
returns-then-not-are_sites c =
    let m = view_module c.args.m.now in
    let f : c.are_sites.result ≡ false = search rules in (
      (λ e. absurd (false≢true e)),
      (λ h.
          let below : (n : ℕ) → IsMarked (marks_on (sites m) c.args.marks.now.labels) n Secret → n < length c.graph.result.now = λ n w. let lt = marked_below (sites m) c.args.marks.now.labels Secret n w in let a = ap length c.requires.sites in let b = c.requires.nodes in let d = ap length c.graph.ensures in omega (arith, lt, a, b, d) in
          let t = c.are_sites.ensures.sites.1 (flow_below (links m c.args.marks.now.points) (musts m c.args.marks.now.points) (marks_on (sites m) c.args.marks.now.labels) c.graph.result.now c.are_sites.ensures.graph (subst (λ z. IsGraphOf (links m c.args.marks.now.points) z) (sym c.graph.ensures) c.requires.graph) c.args.w.now.sites below h.flow) in
          absurd (false≢true (sym f ∙ t))),
    )

pub is_reason-requires-clause-site : goal.is_reason-requires-clause-site
is_reason-requires-clause-site c =
    let t : c.are_sites.result ≡ true = search rules in
    at_below c.args.w.now.sites (length c.graph.result.now) (length c.args.s.now) _ c.site-last.result (ap length c.graph.ensures ∙ c.requires.nodes) (c.are_sites.ensures.sites.0 t) c.site-last.ensures

pub returns-then-not-is_marked : goal.returns-then-not-is_marked
returns-then-not-is_marked c =
    let m = view_module c.args.m.now in
    let f : c.is_marked.result ≡ false = search rules in (
      (λ e. absurd (false≢true e)),
      (λ h.
          let k = first_marked (links m c.args.marks.now.points) (musts m c.args.marks.now.points) (marks_on (sites m) c.args.marks.now.labels) c.args.w.now c.site-first.result c.site-first.ensures h in
          let t = c.is_marked.ensures.1 (subst (λ z. IsMarked (marks_on z c.args.marks.now.labels) c.site-first.result Secret) (sym c.requires.sites) k) in
          absurd (false≢true (sym f ∙ t))),
    )

pub returns-then-not-are_rules : goal.returns-then-not-are_rules
returns-then-not-are_rules c =
    let m = view_module c.args.m.now in
    let f : c.are_rules.result ≡ false = search rules in (
      (λ e. absurd (false≢true e)),
      (λ h. let t = (c.are_rules.ensures (links m c.args.marks.now.points) (subst (λ z. IsGraphOf (links m c.args.marks.now.points) z) (sym c.graph-2.ensures) c.requires.graph)).1 h.rules in absurd (false≢true (sym f ∙ t))),
    )

pub returns : goal.returns
returns c =
    let m = view_module c.args.m.now in
    let k : c.is_marked.result ≡ true = search rules in
    let r : c.are_rules.result ≡ true = search rules in
    let s = subst (λ z. IsMarked (marks_on z c.args.marks.now.labels) c.site-first.result Secret) c.requires.sites (c.is_marked.ensures.0 k) in
    let e = last_is c.args.w.now.sites c.count-count.result c.site-last.result c.count-count.ensures.count c.site-last.ensures in
    let o = ap (λ n. must_of n (musts m c.args.marks.now.points)) e ∙ sym (c.requires.musts c.site-last.result) in (
      (λ t.
          let w = subst (λ z. IsReasonBy (must_at c.args.links.now.musts c.site-last.result) (marks_on z c.args.marks.now.labels) c.site-last.result c.last.result) c.requires.sites (c.is_reason.ensures.0 t) in
          let v = subst (λ n. IsReasonBy (must_at c.args.links.now.musts c.site-last.result) (marks_on (sites m) c.args.marks.now.labels) n c.args.w.now.last) (sym e) (subst (λ n. IsReasonBy (must_at c.args.links.now.musts c.site-last.result) (marks_on (sites m) c.args.marks.now.labels) c.site-last.result n) c.last.ensures w) in
          checked (links m c.args.marks.now.points) (musts m c.args.marks.now.points) (marks_on (sites m) c.args.marks.now.labels) c.args.w.now c.site-first.result (must_at c.args.links.now.musts c.site-last.result) c.site-first.ensures o s ((c.are_rules.ensures (links m c.args.marks.now.points) (subst (λ z. IsGraphOf (links m c.args.marks.now.points) z) (sym c.graph-2.ensures) c.requires.graph)).0 r) v),
      (λ h.
          let w = last_reason (links m c.args.marks.now.points) (musts m c.args.marks.now.points) (marks_on (sites m) c.args.marks.now.labels) c.args.w.now (must_at c.args.links.now.musts c.site-last.result) o h in
          let v = subst (λ n. IsReasonBy (must_at c.args.links.now.musts c.site-last.result) (marks_on (sites m) c.args.marks.now.labels) c.site-last.result n) (sym c.last.ensures) (subst (λ n. IsReasonBy (must_at c.args.links.now.musts c.site-last.result) (marks_on (sites m) c.args.marks.now.labels) n c.args.w.now.last) e w) in
          c.is_reason.ensures.1 (subst (λ z. IsReasonBy (must_at c.args.links.now.musts c.site-last.result) (marks_on z c.args.marks.now.labels) c.site-last.result c.last.result) (sym c.requires.sites) v)),
    )
