use Rattle.std.proofs.Common.{length, sym, ap, ◌∙◌, refl, arith}
use Rattle.ctw_semantics.specs.Stores.{Storage}
use Rattle.ctw_launch.specs.Launched.{with_segment}
use Rattle.ctw_session.proofs.Copying.{at_number}
use Rattle.ctw_session.proofs.StartsOf.{some_linked}
use Rattle.ctw_session.proofs.SegmentsOf.{segments_seen}
use Rattle.ctw_session.proofs.Loading.{fold_next, fold_all}
use Rattle.ctw_session.proofs.segments.write_part_segments.Goals as goal

pub bounds-parts-part : goal.bounds-parts-part
bounds-parts-part c = omega (arith, c.requires.part, ap length c.parts.ensures.value)

pub segments-init : goal.segments-init
segments-init c = record { loading = c.requires.loading; written = λ p there. refl }

pub write_segment-requires-clause-there : goal.write_segment-requires-clause-there
write_segment-requires-clause-there c =
    let set = c.args.set.now in
    let p = some_linked set c.args.part c.requires.part in
    let count = segments_seen set c.args.part p.0 p.1 c.parts.result.now c.index-parts-part.result c.parts.ensures.value in
    let e = at_number p.0.tree.segments c.segments.index (omega (arith, c.segment_count-index-end.ensures, c.segments-test.true, count)) in
    (p.0, p.1, e.0, e.1)

pub write_segment-requires-clause-loading : goal.write_segment-requires-clause-loading
write_segment-requires-clause-loading c = c.segments.invariant.loading

pub segments-preserved : goal.segments-preserved
segments-preserved c = record {
  loading = c.in_ok-write_segment.ensures.loading;
  written = λ p there.
      let count = segments_seen c.args.set.now c.args.part p there c.parts.result.now c.index-parts-part.result c.parts.ensures.value in
      let e = at_number p.tree.segments c.segments.index (omega (arith, c.segment_count-index-end.ensures, c.segments-test.true, count)) in
      c.in_ok-write_segment.ensures.written p e.0 there e.1
      ∙ ap (λ (s : Storage). with_segment p s e.0) (c.segments.invariant.written p there)
      ∙ sym (fold_next (with_segment p) c.args.store.now.storage p.tree.segments c.segments.index e.0 e.1);
}

pub returns-clause-written : goal.returns-clause-written
returns-clause-written c = λ p there.
    let count = segments_seen c.args.set.now c.args.part p there c.parts.result.now c.index-parts-part.result c.parts.ensures.value in
    c.segments.invariant.written p there ∙ fold_all (with_segment p) c.args.store.now.storage p.tree.segments c.segments.index (omega (arith, c.segment_count-index-end.ensures, c.segments-test.false, count))

pub returns-clause-loading : goal.returns-clause-loading
returns-clause-loading c = c.segments.invariant.loading
