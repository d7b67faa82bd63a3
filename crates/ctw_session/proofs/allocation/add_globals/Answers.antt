use Rattle.std.proofs.Common.{◌≡◌, ◌≤◌, ◌<◌, ◌+◌, ◌-◌, ◌^◌, ℕ, List, length, fold, take, get_or, None, sym, ap, ◌∙◌, refl, subst, arith}
use Rattle.ctw_ops.specs.Tree.{imported_globals}
use Rattle.ctw_module.specs.Trees.{tree}
use Rattle.ctw_semantics.specs.Stores.{Storage}
use Rattle.ctw_launch.specs.Launched.{with_global}
use Rattle.ctw_session.proofs.StartsOf.{part_here, some_linked}
use Rattle.ctw_session.proofs.Allocating.{defined_global, begins, begins_with, is_read, none_added, next_global, past_globals, all_added, room_for_global, read_here}
use Rattle.ctw_session.proofs.allocation.add_globals.Goals as goal

pub globals-init : goal.globals-init
globals-init c = λ p there.
    let set = c.args.set.now in
    let P = get_or c.parts.result.now c.args.part c.index-parts-part.result in
    let at = part_here c.parts.result.now set c.args.part c.index-parts-part.result c.parts.ensures.value c.requires.part in
    none_added set c.args.part P at p there c.imported_count-index.result c.args.store.now.storage c.imported_count-index.ensures

pub unreachable-requires : goal.unreachable-requires
unreachable-requires c =
    let P = get_or c.parts.result.now c.args.part c.index-parts-part.result in
    let le : length (imported_globals (tree P.«module»).imports) ≤ c.globals.index = omega (arith, c.imported_count-index.ensures, c.globals.auto.index) in
    let g = defined_global (tree P.«module») c.globals.index c.global-ty.result.ty _ le c.global-ty.ensures.typed c.global-ty.ensures.init in
    begins (tree P.«module») _ c.global-ty.result.ty c.global-ty.result.init g c.in_default.is

pub constant_value-value-requires-clause-known : goal.constant_value-value-requires-clause-known
constant_value-value-requires-clause-known c = λ x e.
    let set = c.args.set.now in
    let P = get_or c.parts.result.now c.args.part c.index-parts-part.result in
    let at = part_here c.parts.result.now set c.args.part c.index-parts-part.result c.parts.ensures.value c.requires.part in
    let le : length (imported_globals (tree P.«module»).imports) ≤ c.globals.index = omega (arith, c.imported_count-index.ensures, c.globals.auto.index) in
    let g = defined_global (tree P.«module») c.globals.index c.global-ty.result.ty _ le c.global-ty.ensures.typed c.global-ty.ensures.init in
    (is_read set c.parts.ensures.linked c.parts.ensures.matching c.args.part P at _ g.global x g.there (sym (begins_with c.global-ty.result.init _ g.global.init c.in-Some.is g.begins) ∙ e)).has

pub constant_value-value-requires-clause-there : goal.constant_value-value-requires-clause-there
constant_value-value-requires-clause-there c = λ x n e number.
    let set = c.args.set.now in
    let P = get_or c.parts.result.now c.args.part c.index-parts-part.result in
    let at = part_here c.parts.result.now set c.args.part c.index-parts-part.result c.parts.ensures.value c.requires.part in
    let le : length (imported_globals (tree P.«module»).imports) ≤ c.globals.index = omega (arith, c.imported_count-index.ensures, c.globals.auto.index) in
    let g = defined_global (tree P.«module») c.globals.index c.global-ty.result.ty _ le c.global-ty.ensures.typed c.global-ty.ensures.init in
    let read = is_read set c.parts.ensures.linked c.parts.ensures.matching c.args.part P at _ g.global x g.there (sym (begins_with c.global-ty.result.init _ g.global.init c.in-Some.is g.begins) ∙ e) in
    let p = some_linked set c.args.part c.requires.part in
    read_here _ p.0 c.args.store.now.storage c.globals.store.storage n (c.globals.invariant p.0 p.1) (subst (λ gs. n < length gs) (sym c.requires.before) (read.before n number))

pub add_global-requires : goal.add_global-requires
add_global-requires c =
    let set = c.args.set.now in
    let P = get_or c.parts.result.now c.args.part c.index-parts-part.result in
    let at = part_here c.parts.result.now set c.args.part c.index-parts-part.result c.parts.ensures.value c.requires.part in
    let p = some_linked set c.args.part c.requires.part in
    let le : length (imported_globals (tree P.«module»).imports) ≤ c.globals.index = omega (arith, c.imported_count-index.ensures, c.globals.auto.index) in
    room_for_global set c.parts.ensures.linked c.parts.ensures.matching c.args.part P at p.0 p.1 c.globals.index c.args.store.now.storage c.globals.store.storage le (omega (arith, c.global_count-index-end.ensures, c.globals-test.true)) c.requires.before (c.globals.invariant p.0 p.1)

pub globals-preserved : goal.globals-preserved
globals-preserved c = λ p there.
    let set = c.args.set.now in
    let P = get_or c.parts.result.now c.args.part c.index-parts-part.result in
    let at = part_here c.parts.result.now set c.args.part c.index-parts-part.result c.parts.ensures.value c.requires.part in
    let le : length (imported_globals (tree P.«module»).imports) ≤ c.globals.index = omega (arith, c.imported_count-index.ensures, c.globals.auto.index) in
    next_global set c.args.part P at p there c.globals.index c.global-ty.result.ty c.global-ty.result.init _ c.constant_value-value.result c.args.store.now.storage c.globals.store.storage _
    le c.global-ty.ensures.typed c.global-ty.ensures.init c.in-Some.is (c.globals.invariant p there) (c.constant_value-value.ensures p there) c.in_ok-add_global.ensures.answer.1

pub returns : goal.returns
returns c = λ p there.
    let set = c.args.set.now in
    let P = get_or c.parts.result.now c.args.part c.index-parts-part.result in
    let at = part_here c.parts.result.now set c.args.part c.index-parts-part.result c.parts.ensures.value c.requires.part in
    c.globals.invariant p there ∙ all_added p _ c.args.store.now.storage (past_globals set c.args.part P at p there c.globals.index (omega (arith, c.global_count-index-end.ensures, c.globals-test.false)))
