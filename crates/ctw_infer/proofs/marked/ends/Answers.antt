use Rattle.std.proofs.Common.{◌<◌, ◌≤◌, ◌+◌, length, not, ◌∙◌, sym, ap, subst, arith}
use Rattle.ctw_ops.specs.declared.types.Label.TheVariants.{Public}
use Rattle.ctw_least.specs.Flows.{IsMarked}
use Rattle.ctw_least.specs.Marked.{marks_on}
use Rattle.ctw_infer.proofs.Ends.{EndsTaken, ends_begin, ends_on, ends_more, ends_end, none_is, some_is}
use Rattle.ctw_infer.proofs.marked.ends.Goals as goal

pub sites-init : goal.sites-init
sites-init c = ends_begin c.args.links.now.musts (length c.args.s.now) (λ n. IsMarked (marks_on c.args.s.now c.args.marks.now.labels) n Public) c.in_ok-found.found.items c.in_ok-found.ensures.marked c.in_ok-found.ensures.below

pub sites-preserved-then-is_none : goal.sites-preserved-then-is_none
sites-preserved-then-is_none c =
    ends_on c.args.links.now.musts (length c.args.s.now) (λ n. IsMarked (marks_on c.args.s.now c.args.marks.now.labels) n Public) c.sites.found.items c.sites.site c.sites.invariant
    (sym c.must.ensures ∙ none_is c.must.result (c.is_none.ensures ∙ ap not c.if-is_none.true))

pub sites-preserved : goal.sites-preserved
sites-preserved c =
    let r = some_is c.must.result (c.is_none.ensures ∙ ap not c.if-is_none.false) in
    let lt : c.sites.site < length c.args.s.now = omega (arith, c.sites-test.true, c.count-site-end.ensures.count) in
    subst (λ z. EndsTaken c.args.links.now.musts (length c.args.s.now) (λ n. IsMarked (marks_on c.args.s.now c.args.marks.now.labels) n Public) z (c.sites.site + 1)) (sym c.in_ok-push.ensures.items)
    (ends_more c.args.links.now.musts (length c.args.s.now) (λ n. IsMarked (marks_on c.args.s.now c.args.marks.now.labels) n Public) c.sites.found.items c.sites.site c.sites.invariant r.0 (sym c.must.ensures ∙ r.1) lt)

pub returns-clause-ends : goal.returns-clause-ends
returns-clause-ends c =
    let le : length c.args.links.now.musts ≤ c.sites.site = omega (arith, c.sites-test.false, c.count-site-end.ensures.count, c.requires) in
    ends_end c.args.links.now.musts (length c.args.s.now) (λ n. IsMarked (marks_on c.args.s.now c.args.marks.now.labels) n Public) c.sites.found.items c.sites.site le c.sites.invariant

pub returns-clause-below : goal.returns-clause-below
returns-clause-below c = c.sites.invariant.below
