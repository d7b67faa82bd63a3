use Rattle.std.proofs.Common.{◌+◌, Some, None, refl, sym, subst, arith}
use Rattle.ctw_infer.proofs.MarkedSites.{MarksTaken, site_found, named_within, marks_begin, marks_other, marks_nowhere, marks_more, marks_end}
use Rattle.ctw_infer.proofs.marked.marked.Goals as goal

pub marks-init : goal.marks-init
marks-init c = marks_begin c.args.s.now c.args.marks.now.labels c.args.label c.new-found.result.items c.new-found.ensures.items

pub marks-preserved-then-not-is_same : goal.marks-preserved-then-not-is_same
marks-preserved-then-not-is_same c =
    marks_other c.args.s.now c.args.marks.now.labels c.args.label c.marks.found.items c.marks.i c.mark-name.result c.mark-name.ensures c.marks.invariant
    (c.is_same.ensures.no c.if-not-is_same.true)

pub marks-preserved-in_default : goal.marks-preserved-in_default
marks-preserved-in_default c =
    marks_nowhere c.args.s.now c.args.marks.now.labels c.args.label c.marks.found.items c.marks.i c.mark-name.result c.mark-name.ensures c.marks.invariant
    (site_found c.args.s.now c.mark-name.result.0 None c.in_default.ensures)

pub marks-preserved : goal.marks-preserved
marks-preserved c =
    let name = c.mark-name.result.0 in
    subst (λ z. MarksTaken c.args.s.now c.args.marks.now.labels c.args.label z (c.marks.i + 1)) (sym c.in_ok-push.ensures.items)
    (marks_more c.args.s.now c.args.marks.now.labels c.args.label c.marks.found.items c.marks.i c.mark-name.result c.mark-name.ensures c.marks.invariant c.in-Some.site
    (c.is_same.ensures.yes c.if-not-is_same.false) (site_found c.args.s.now name (Some c.in-Some.site) c.in-Some.ensures)
    (named_within c.args.s.now c.in-Some.site name ((c.in-Some.ensures c.in-Some.site).0 refl)))

pub returns-clause-marked : goal.returns-clause-marked
returns-clause-marked c = marks_end c.args.s.now c.args.marks.now.labels c.args.label c.marks.found.items c.marks.i (omega (arith, c.marks-test.false, c.count-i-end.ensures)) c.marks.invariant

pub returns-clause-below : goal.returns-clause-below
returns-clause-below c = c.marks.invariant.below
