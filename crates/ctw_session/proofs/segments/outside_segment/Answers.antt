use Rattle.std.proofs.Common.{length, sym, ap, ◌∙◌, refl, arith}
use Rattle.ctw_launch.specs.Launched.{segment_fits}
use Rattle.ctw_session.proofs.Copying.{at_number}
use Rattle.ctw_session.proofs.StartsOf.{some_linked}
use Rattle.ctw_session.proofs.SegmentsOf.{segments_seen}
use Rattle.ctw_session.proofs.Checking.{fits_more, found_outside, all_fit}
use Rattle.ctw_session.proofs.segments.outside_segment.Goals as goal

pub bounds-parts-part : goal.bounds-parts-part
bounds-parts-part c = omega (arith, c.requires.part, ap length c.parts.ensures.value)

pub segments-init : goal.segments-init
segments-init c = λ p fault there. refl

pub is_segment_inside-requires-clause-there : goal.is_segment_inside-requires-clause-there
is_segment_inside-requires-clause-there c =
    let set = c.args.set.now in
    let p = some_linked set c.args.part c.requires.part in
    let count = segments_seen set c.args.part p.0 p.1 c.parts.result.now c.index-parts-part.result c.parts.ensures.value in
    let e = at_number p.0.tree.segments c.segments.index (omega (arith, c.segment_count-index-end.ensures, c.segments-test.true, count)) in
    (p.0, p.1, e.0, e.1)

pub returns-then-not-is_segment_inside : goal.returns-then-not-is_segment_inside
returns-then-not-is_segment_inside c = λ p fault there.
    let set = c.args.set.now in
    let fits = segment_fits c.args.store.now.storage p in
    let count = segments_seen set c.args.part p there c.parts.result.now c.index-parts-part.result c.parts.ensures.value in
    let e = at_number p.tree.segments c.segments.index (omega (arith, c.segment_count-index-end.ensures, c.segments-test.true, count)) in
    found_outside fits fault p.tree.segments c.segments.index e.0 e.1 (c.segments.invariant p fault there) (sym (c.is_segment_inside.ensures p e.0 there e.1) ∙ c.if-not-is_segment_inside.true)

pub segments-preserved : goal.segments-preserved
segments-preserved c = λ p fault there.
    let set = c.args.set.now in
    let fits = segment_fits c.args.store.now.storage p in
    let count = segments_seen set c.args.part p there c.parts.result.now c.index-parts-part.result c.parts.ensures.value in
    let e = at_number p.tree.segments c.segments.index (omega (arith, c.segment_count-index-end.ensures, c.segments-test.true, count)) in
    fits_more fits fault p.tree.segments c.segments.index e.0 e.1 (c.segments.invariant p fault there) (sym (c.is_segment_inside.ensures p e.0 there e.1) ∙ c.if-not-is_segment_inside.false)

pub returns : goal.returns
returns c = λ p fault there.
    let count = segments_seen c.args.set.now c.args.part p there c.parts.result.now c.index-parts-part.result c.parts.ensures.value in
    all_fit (segment_fits c.args.store.now.storage p) fault p.tree.segments c.segments.index (omega (arith, c.segment_count-index-end.ensures, c.segments-test.false, count)) (c.segments.invariant p fault there)
