use Rattle.std.proofs.Common.{◌≡◌, ◌≤◌, ◌<◌, ◌+◌, ◌^◌, ℕ, length, take, get_or, sym, ap, ◌∙◌, subst, arith}
use Rattle.std.proofs.lemmas.Result.{IfOk-weaker}
use Rattle.ctw_ops.specs.Limits.{most_set_pages}
use Rattle.ctw_semantics.specs.Stores.{Storage, all_pages}
use Rattle.ctw_module.specs.Trees.{tree}
use Rattle.ctw_link.specs.Matching.{pages_of}
use Rattle.ctw_session.specs.Allocation.{with_own_memory}
use Rattle.ctw_session.proofs.StartsOf.{part_here, some_linked}
use Rattle.ctw_session.proofs.Allocating.{few_memories, few_tables, room_for_pages, part_added}
use Rattle.ctw_session.proofs.allocation.add_part.Goals as goal

pub add_memory-requires-clause-few : goal.add_memory-requires-clause-few
add_memory-requires-clause-few c =
    let set = c.args.set.now in
    let at = part_here c.parts.result.now set c.args.part c.index-parts-part.result c.parts.ensures.value c.requires.part in
    subst (λ (s : Storage). length s.memories < 2 ^ 32) (sym c.requires.before) (few_memories set c.parts.ensures.linked c.parts.ensures.matching c.args.part _ at)

pub add_memory-requires-clause-room : goal.add_memory-requires-clause-room
add_memory-requires-clause-room c =
    let set = c.args.set.now in
    let P = get_or c.parts.result.now c.args.part c.index-parts-part.result in
    let at = part_here c.parts.result.now set c.args.part c.index-parts-part.result c.parts.ensures.value c.requires.part in
    subst (λ (s : Storage). all_pages s.memories + pages_of (tree P.«module»).memory ≤ most_set_pages) (sym c.requires.before) (room_for_pages set c.parts.ensures.linked c.parts.ensures.matching c.args.part P at)

pub add_table-requires : goal.add_table-requires
add_table-requires c =
    let P = get_or c.parts.result.now c.args.part c.index-parts-part.result in
    let set = c.args.set.now in
    let at = part_here c.parts.result.now set c.args.part c.index-parts-part.result c.parts.ensures.value c.requires.part in
    subst (λ (s : Storage). length s.tables < 2 ^ 32) (sym (c.in_ok-add_memory.ensures ∙ ap (with_own_memory (tree P.«module»)) c.requires.before)) (few_tables set c.parts.ensures.linked c.parts.ensures.matching c.args.part _ at)

pub returns : goal.returns
returns c =
    let set = c.args.set.now in
    let P = get_or c.parts.result.now c.args.part c.index-parts-part.result in
    let at = part_here c.parts.result.now set c.args.part c.index-parts-part.result c.parts.ensures.value c.requires.part in
    let p = some_linked set c.args.part c.requires.part in
    IfOk-weaker c.add_globals.result _ _ (λ _ h. part_added set c.args.part P at p.0 p.1 _ _ _ _ c.requires.before c.in_ok-add_memory.ensures c.in_ok-add_table.ensures (h p.0 p.1)) c.add_globals.ensures
