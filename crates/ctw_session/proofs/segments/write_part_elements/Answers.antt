use Rattle.std.proofs.Common.{length, sym, ap, ◌∙◌, refl, arith}
use Rattle.ctw_semantics.specs.Stores.{Storage}
use Rattle.ctw_launch.specs.Launched.{with_element}
use Rattle.ctw_session.proofs.Copying.{at_number}
use Rattle.ctw_session.proofs.StartsOf.{some_linked}
use Rattle.ctw_session.proofs.SegmentsOf.{elements_seen}
use Rattle.ctw_session.proofs.Loading.{fold_next, fold_all}
use Rattle.ctw_session.proofs.segments.write_part_elements.Goals as goal

pub bounds-parts-part : goal.bounds-parts-part
bounds-parts-part c = omega (arith, c.requires.part, ap length c.parts.ensures.value)

pub elements-init : goal.elements-init
elements-init c = record { loading = c.requires.loading; written = λ p there. refl }

pub write_element-requires-clause-there : goal.write_element-requires-clause-there
write_element-requires-clause-there c =
    let set = c.args.set.now in
    let p = some_linked set c.args.part c.requires.part in
    let count = elements_seen set c.args.part p.0 p.1 c.parts.result.now c.index-parts-part.result c.parts.ensures.value in
    let e = at_number p.0.tree.elements c.elements.index (omega (arith, c.element_count-index-end.ensures, c.elements-test.true, count)) in
    (p.0, p.1, e.0, e.1)

pub write_element-requires-clause-loading : goal.write_element-requires-clause-loading
write_element-requires-clause-loading c = c.elements.invariant.loading

pub elements-preserved : goal.elements-preserved
elements-preserved c = record {
  loading = c.write_element.ensures.loading;
  written = λ p there.
      let count = elements_seen c.args.set.now c.args.part p there c.parts.result.now c.index-parts-part.result c.parts.ensures.value in
      let e = at_number p.tree.elements c.elements.index (omega (arith, c.element_count-index-end.ensures, c.elements-test.true, count)) in
      c.write_element.ensures.written p e.0 there e.1
      ∙ ap (λ (s : Storage). with_element p s e.0) (c.elements.invariant.written p there)
      ∙ sym (fold_next (with_element p) c.args.store.now.storage p.tree.elements c.elements.index e.0 e.1);
}

pub returns-clause-written : goal.returns-clause-written
returns-clause-written c = λ p there.
    let count = elements_seen c.args.set.now c.args.part p there c.parts.result.now c.index-parts-part.result c.parts.ensures.value in
    c.elements.invariant.written p there ∙ fold_all (with_element p) c.args.store.now.storage p.tree.elements c.elements.index (omega (arith, c.element_count-index-end.ensures, c.elements-test.false, count))

pub returns-clause-loading : goal.returns-clause-loading
returns-clause-loading c = c.elements.invariant.loading
