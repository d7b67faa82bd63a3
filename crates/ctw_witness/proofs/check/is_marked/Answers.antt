use Rattle.std.proofs.Common.{◌≡◌, ◌∙◌, Some, true, false, refl, sym, ap, subst, rules, arith, slice_get}
use Rattle.std.specs.Prelude.{Contains}
use Rattle.std.proofs.lemmas.Bool.{false≢true}
use Rattle.ctw_lex.proofs.Facts.{some_same}
use Rattle.ctw_labels.proofs.NameLaws.{by_place}
use Rattle.ctw_least.specs.Marked.{site_named, marks_on}
use Rattle.ctw_witness.proofs.MarkLaws.{marks_at, marks_from}
use Rattle.ctw_witness.proofs.SiteLaws.{site_found}
use Rattle.ctw_witness.proofs.check.is_marked.Goals as goal

pub returns-then-eq : goal.returns-then-eq
returns-then-eq c =
    let l : c.mark-name.result.1 ≡ c.args.label = search rules in
    let e : c.site_of.result ≡ Some c.args.site = search rules in
    let n = site_found c.args.s.now c.mark-name.result.0 c.site_of.result c.site_of.ensures ∙ e in (
      (λ t. subst (λ z. Contains (marks_on c.args.s.now c.args.marks.now.labels) (record { site = c.args.site; label = z })) l (marks_at c.args.s.now c.args.marks.now.labels c.marks.i c.mark-name.result c.args.site c.mark-name.ensures n)),
      (λ t. refl),
    )

pub marks-preserved : goal.marks-preserved
marks-preserved c = λ j k lt g l s.
    let f : c.site_of.result ≡ Some c.args.site → ⊥ = search rules in
    by_place j c.marks.i (λ w. c.marks.invariant j k w g l s)
    (λ q.
    let same : k ≡ c.mark-name.result = some_same (sym g ∙ ap (slice_get c.args.marks.now.labels) q ∙ c.mark-name.ensures) in
    f (sym (site_found c.args.s.now c.mark-name.result.0 c.site_of.result c.site_of.ensures) ∙ ap (λ z. site_named c.args.s.now z.0) (sym same) ∙ s))
    (λ w. absurd (omega (arith, w, lt)))

pub returns : goal.returns
returns c = (
  (λ e. absurd (false≢true e)),
  (λ w.
      let r = marks_from c.args.s.now c.args.marks.now.labels (record { site = c.args.site; label = c.args.label }) w in
      absurd (c.marks.invariant r.i r.mark (omega (arith, r.below, c.marks-test.false, c.count-i-end.ensures)) r.there r.label r.site)),
)
