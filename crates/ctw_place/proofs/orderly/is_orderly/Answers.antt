use Rattle.std.proofs.Common.{◌≡◌, ◌<◌, ℕ, ◌+◌, slice_get, Some, refl, sym, subst, arith}
use Rattle.std.proofs.lemmas.Option.{slice_get_within}
use borrow.Author.Count.{below_more}
use Rattle.ctw_module.specs.Trees.{view_module}
use Rattle.ctw_labels.specs.Fits.{label_at}
use Rattle.ctw_labels.specs.Links.{at_tag}
use Rattle.ctw_labels.specs.ModuleLinks.{yield_links}
use Rattle.ctw_labels.specs.Names.{Site}
use Rattle.ctw_labels.specs.Placed.{IsOrderly}
use Rattle.ctw_labels.proofs.OrderLaws.{Runs, orderly_by_yields}
use Rattle.ctw_write.proofs.Listed.{item_there}
use Rattle.ctw_place.specs.Orderly.{AllowsSite}
use Rattle.ctw_place.proofs.OrderlyLaws.{runs_from, runs_at}
use Rattle.ctw_place.proofs.orderly.is_orderly.Goals as goal

pub loop-site-preserved : goal.loop-site-preserved
loop-site-preserved c =
    below_more (λ k. (x : Site) → slice_get c.args.s.now k ≡ Some x → AllowsSite (label_at c.args.l.now) c.args.p.now k x) c.loop-site.site c.loop-site.invariant
    (λ x e. subst (λ z. AllowsSite (label_at z) c.args.p.now c.loop-site.site x) c.new-labels.ensures.labels ((c.is_allowed.ensures x e).0 c.if-not-is_allowed.false))

pub returns-then-not-is_allowed : goal.returns-then-not-is_allowed
returns-then-not-is_allowed c =
    let m = view_module c.args.m.now in
    let l = label_at c.args.l.now in
    let p = c.args.p.now in
    let k = c.loop-site.site in
    let there = item_there c.args.s.now k (omega (arith, c.loop-site-test.true, c.count-site-end.ensures.count)) in
    let refused : IsOrderly (at_tag (label_at c.args.l.now)) (view_module c.args.m.now) c.args.p.now → ⊥ = λ o.
    let runs = subst (λ z. Runs (label_at c.args.l.now) (yield_links c.args.p.now 0 z)) (sym c.requires.sites) ((orderly_by_yields (view_module c.args.m.now) (c.requires.valid.formed.plain c.requires.plain) c.args.p.now (label_at c.args.l.now)).0 o) in
    let z : 0 + c.loop-site.site ≡ c.loop-site.site = omega arith in
    let a = subst (λ j. AllowsSite (label_at c.args.l.now) c.args.p.now j there.0) z (runs_at (label_at c.args.l.now) c.args.p.now 0 c.args.s.now runs c.loop-site.site there.0 there.1) in
    let b = (c.is_allowed.ensures there.0 there.1).1 (subst (λ z. AllowsSite (label_at z) c.args.p.now c.loop-site.site there.0) (sym c.new-labels.ensures.labels) a) in
    let d = c.if-not-is_allowed.true in
    cc (b, d) in
    ((λ e. absurd cc), (λ o. absurd (refused o)))

pub returns : goal.returns
returns c =
    let all : (k : ℕ) (x : Site) → slice_get c.args.s.now k ≡ Some x → AllowsSite (label_at c.args.l.now) c.args.p.now (0 + k) x = λ k x e.
    let z : k ≡ 0 + k = omega arith in
    let lt : k < c.loop-site.site = omega (arith, slice_get_within c.args.s.now k x e, c.loop-site-test.false, c.count-site-end.ensures.count) in
    subst (λ j. AllowsSite (label_at c.args.l.now) c.args.p.now j x) z (c.loop-site.invariant k lt x e) in (
      (λ e. (orderly_by_yields (view_module c.args.m.now) (c.requires.valid.formed.plain c.requires.plain) c.args.p.now (label_at c.args.l.now)).1
          (subst (λ z. Runs (label_at c.args.l.now) (yield_links c.args.p.now 0 z)) c.requires.sites (runs_from (label_at c.args.l.now) c.args.p.now 0 c.args.s.now all))),
      (λ o. refl),
    )
