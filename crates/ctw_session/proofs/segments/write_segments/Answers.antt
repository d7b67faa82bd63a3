use Rattle.std.proofs.Common.{◌≤◌, ◌<◌, length, fold, sym, ap, ◌∙◌, refl, arith}
use Rattle.std.proofs.lemmas.List.{length-map}
use Rattle.ctw_semantics.specs.Stores.{Storage}
use Rattle.ctw_link.specs.Sets.{part_in, set_of}
use Rattle.ctw_link.specs.Numbers.{linked}
use Rattle.ctw_link.proofs.LinkedFronts.{linked_length}
use Rattle.ctw_launch.specs.Launched.{with_element, with_segment, with_part}
use Rattle.ctw_session.proofs.StartsOf.{some_linked}
use Rattle.ctw_session.proofs.Loading.{fold_next, fold_all, loading_first}
use Rattle.ctw_session.proofs.segments.write_segments.Goals as goal

pub parts-init : goal.parts-init
parts-init c = record { loading = loading_first c.args.set.now c.args.store.now.storage c.requires.allocated c.requires.inside; written = refl }

pub write_part_elements-requires-clause-loading : goal.write_part_elements-requires-clause-loading
write_part_elements-requires-clause-loading c = c.parts.invariant.loading

pub write_part_segments-requires-clause-loading : goal.write_part_segments-requires-clause-loading
write_part_segments-requires-clause-loading c = c.write_part_elements.ensures.loading

pub parts-preserved : goal.parts-preserved
parts-preserved c =
    let set = c.args.set.now in
    let lt : c.parts.part < length set = omega (arith, c.parts-test.true, ap length c.parts-2.ensures.value) in
    let p = some_linked set c.parts.part lt in
    record {
      loading = c.in_ok-write_part_segments.ensures.loading;
      written = c.in_ok-write_part_segments.ensures.written p.0 p.1
          ∙ ap (λ (s : Storage). fold (with_segment p.0) s p.0.tree.segments) (c.write_part_elements.ensures.written p.0 p.1 ∙ ap (λ (s : Storage). fold (with_element p.0) s p.0.tree.elements) c.parts.invariant.written)
          ∙ sym (fold_next with_part c.args.store.now.storage (linked (set_of set)) c.parts.part p.0 p.1);
    }

pub returns : goal.returns
returns c =
    let parts = linked (set_of c.args.set.now) in
    let past : length parts ≤ c.parts.part = omega (arith, c.parts-test.false, ap length c.parts-2.ensures.value, linked_length (set_of c.args.set.now), length-map c.args.set.now part_in) in
    c.parts.invariant.written ∙ fold_all with_part c.args.store.now.storage parts c.parts.part past ∙ ap (λ (s : Storage). fold with_part s parts) c.requires.allocated
