use Rattle.std.proofs.Common.{◌∙◌, List, get_or, refl, ap, arith}
use Rattle.ctw_ops.specs.Tree.{under}
use Rattle.ctw_link.specs.declared.set.Part.{Part}
use Rattle.ctw_link.specs.Sets.{set_of}
use Rattle.ctw_module.specs.Trees.{view_module}
use Rattle.ctw_place.specs.Limits.{most_ct_bytes}
use Rattle.ctwasm_top.specs.Works.{classifies}
use Rattle.ctwasm_top.proofs.Worked.{same_sets, only_part, linked_alone, worked_stops, worked_tells, linking_stops}
use Rattle.ctwasm_top.proofs.working.run_work.Goals as goal

pub link_parts-requires-clause-within : goal.link_parts-requires-clause-within
unfolding most_ct_bytes
link_parts-requires-clause-within c = omega (arith, c.requires)

pub returns-in-Err-clause-told : goal.returns-in-Err-clause-told
returns-in-Err-clause-told c = λ labels t spelled valid matching sites secret.
    let goes = linked_alone c.args.profile c.args.placed.bytes.items t spelled valid matching in
    linking_stops labels (under c.args.profile t) c.args.vault.items _ refl _ goes c.in-Err.stop c.in-Err.ensures.told

pub returns-in-Err-launch_set-clause-told : goal.returns-in-Err-launch_set-clause-told
returns-in-Err-launch_set-clause-told c = λ labels t spelled valid matching sites secret.
    let goes = linked_alone c.args.profile c.args.placed.bytes.items t spelled valid matching in
    worked_stops labels (under c.args.profile t) c.args.vault.items (set_of c.in-Ok.set) (same_sets _ _ _ c.in-Ok.ensures.told goes) c.in-Err-launch_set.stop c.in-Err-launch_set.ensures.told

pub returns-in-Ok-sum_up-clause-told : goal.returns-in-Ok-sum_up-clause-told
returns-in-Ok-sum_up-clause-told c = λ labels t spelled valid matching sites secret.
    let goes = linked_alone c.args.profile c.args.placed.bytes.items t spelled valid matching in
    let same = same_sets _ _ _ c.in-Ok.ensures.told goes in
    let opened = c.in-Ok-launch_set.ensures.told in
    let own = ap (λ (l : List Part). view_module (get_or l 0 c.index-parts-0.result).«module») c.parts.ensures.value ∙ only_part c.in-Ok.set c.index-parts-0.result (under c.args.profile t) same in
    worked_tells labels (under c.args.profile t) c.args.vault.items (set_of c.in-Ok.set) same (set_of c.in-Ok-launch_set.session.set) opened.0 c.in-Ok-sum_up.line.items c.args.placed.sites c.args.placed.secret c.count_classifies.result opened.2
    sites secret (c.count_classifies.ensures ∙ ap classifies own) (c.in-Ok-sum_up.ensures opened.0 opened.1)
