use Rattle.std.proofs.Common.{length, sym, ap, ◌∙◌, refl, arith}
use Rattle.ctw_launch.specs.Launched.{element_fits}
use Rattle.ctw_session.proofs.Copying.{at_number}
use Rattle.ctw_session.proofs.StartsOf.{some_linked}
use Rattle.ctw_session.proofs.SegmentsOf.{elements_seen}
use Rattle.ctw_session.proofs.Checking.{fits_more, found_outside, all_fit}
use Rattle.ctw_session.proofs.segments.outside_element.Goals as goal

pub bounds-parts-part : goal.bounds-parts-part
bounds-parts-part c = omega (arith, c.requires.part, ap length c.parts.ensures.value)

pub elements-init : goal.elements-init
elements-init c = λ p fault there. refl

pub is_element_inside-requires-clause-there : goal.is_element_inside-requires-clause-there
is_element_inside-requires-clause-there c =
    let set = c.args.set.now in
    let p = some_linked set c.args.part c.requires.part in
    let count = elements_seen set c.args.part p.0 p.1 c.parts.result.now c.index-parts-part.result c.parts.ensures.value in
    let e = at_number p.0.tree.elements c.elements.index (omega (arith, c.element_count-index-end.ensures, c.elements-test.true, count)) in
    (p.0, p.1, e.0, e.1)

pub returns-then-not-is_element_inside : goal.returns-then-not-is_element_inside
returns-then-not-is_element_inside c = λ p fault there.
    let set = c.args.set.now in
    let fits = element_fits c.args.store.now.storage p in
    let count = elements_seen set c.args.part p there c.parts.result.now c.index-parts-part.result c.parts.ensures.value in
    let e = at_number p.tree.elements c.elements.index (omega (arith, c.element_count-index-end.ensures, c.elements-test.true, count)) in
    found_outside fits fault p.tree.elements c.elements.index e.0 e.1 (c.elements.invariant p fault there) (sym (c.is_element_inside.ensures p e.0 there e.1) ∙ c.if-not-is_element_inside.true)

pub elements-preserved : goal.elements-preserved
elements-preserved c = λ p fault there.
    let set = c.args.set.now in
    let fits = element_fits c.args.store.now.storage p in
    let count = elements_seen set c.args.part p there c.parts.result.now c.index-parts-part.result c.parts.ensures.value in
    let e = at_number p.tree.elements c.elements.index (omega (arith, c.element_count-index-end.ensures, c.elements-test.true, count)) in
    fits_more fits fault p.tree.elements c.elements.index e.0 e.1 (c.elements.invariant p fault there) (sym (c.is_element_inside.ensures p e.0 there e.1) ∙ c.if-not-is_element_inside.false)

pub returns : goal.returns
returns c = λ p fault there.
    let count = elements_seen c.args.set.now c.args.part p there c.parts.result.now c.index-parts-part.result c.parts.ensures.value in
    all_fit (element_fits c.args.store.now.storage p) fault p.tree.elements c.elements.index (omega (arith, c.element_count-index-end.ensures, c.elements-test.false, count)) (c.elements.invariant p fault there)
