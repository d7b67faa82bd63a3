use Rattle.std.proofs.Common.{refl, sym, ap, ◌∙◌, ◌++◌, map, arith}
use Rattle.ctw_module.specs.Trees.{view_module}
use Rattle.ctw_labels.specs.ModuleLinks.{offset_fact, offset_facts}
use Rattle.ctw_labels.specs.SitedModule.{sited_globals}
use Rattle.ctw_links.proofs.Lists.{one_told, all_told}
use Rattle.ctw_links.proofs.UserNotes.{none_there}
use Rattle.ctw_links.proofs.globals.tell_segments.Goals as goal

pub returns-in-None : goal.returns-in-None
returns-in-None c = absurd (none_there (view_module c.args.m.now).segments c.segments.i (omega (arith, c.segments-test.true, c.segment_count-i-end.ensures)) (sym c.in-None.is ∙ c.segment.ensures))

pub segments-preserved : goal.segments-preserved
segments-preserved c =
    let S = sited_globals (view_module c.args.m.now) in
    one_told (λ e. offset_fact S e.offset) (λ es. offset_facts S (map (λ e. e.offset) es)) (λ x xs. refl) (view_module c.args.m.now).segments c.segments.i c.in-Some.segment _ _ _ (sym c.in-Some.ensures) (c.in_ok-tell_offset.ensures ∙ ap (λ z. c.segments.told.items ++ offset_fact S z) (ap (λ z. z.offset) c.segment-in-segments.view_is)) c.segments.invariant

pub returns : goal.returns
returns c =
    let S = sited_globals (view_module c.args.m.now) in
    all_told (λ e. offset_fact S e.offset) (λ es. offset_facts S (map (λ e. e.offset) es)) (λ x xs. refl) refl (view_module c.args.m.now).segments c.segments.i _ _ (omega (arith, c.segments-test.false, c.segment_count-i-end.ensures)) c.segments.invariant
