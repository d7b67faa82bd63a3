use Rattle.std.proofs.Common.{◌≡◌, ℕ, ◌+◌, Some, None, length, nat_le, slice_get, sym, ap, ◌∙◌, arith}
use Rattle.std.proofs.lemmas.Option.{same_Some}
use Rattle.ctw_ops.specs.declared.types.Label.{Label}
use Rattle.ctw_ops.specs.Tree.{Element}
use Rattle.ctw_semantics.specs.Stores.{Storage}
use Rattle.ctw_link.specs.Sets.{set_of}
use Rattle.ctw_launch.specs.Launched.{offset_of}
use Rattle.ctw_session.proofs.Copying.{at_number}
use Rattle.ctw_session.proofs.SegmentsOf.{part_within, element_seen, element_offset, offset_known, offset_there, has_table, table_number, table_below, tables_short, element_test}
use Rattle.ctw_session.proofs.segments.is_element_inside.Goals as goal

pub bounds-parts-part : goal.bounds-parts-part
bounds-parts-part c =
    let r = c.requires.there in
    omega (arith, part_within c.args.set.now c.args.part r.0 r.1, ap length c.parts.ensures.value)

pub unreachable-requires : goal.unreachable-requires
unreachable-requires c =
    let set = c.args.set.now in
    let r = c.requires.there in
    let none = element_seen set c.args.part r.0 r.1 c.parts.result.now c.index-parts-part.result c.parts.ensures.value None c.args.index c.in_default.ensures in
    absurd (let e = sym none ∙ r.3 in cc)

pub table_of-requires : goal.table_of-requires
table_of-requires c = let r = c.requires.there in part_within c.args.set.now c.args.part r.0 r.1

pub unreachable-requires-in_default-table_of : goal.unreachable-requires-in_default-table_of
unreachable-requires-in_default-table_of c =
    let r = c.requires.there in
    has_table c.args.set.now c.args.part r.0 r.1 c.parts.ensures.linked c.parts.ensures.matching c.args.index r.2 r.3 c.in_default-table_of.ensures.number

pub constant_value-at-requires-clause-known : goal.constant_value-at-requires-clause-known
constant_value-at-requires-clause-known c =
    let set = c.args.set.now in
    let r = c.requires.there in
    let read = element_seen set c.args.part r.0 r.1 c.parts.result.now c.index-parts-part.result c.parts.ensures.value (Some c.in-Some.element) c.args.index c.in-Some.ensures in
    λ x e. offset_known set c.args.part r.0 r.1 c.parts.ensures.linked c.parts.ensures.matching c.in-Some.element.offset
    (element_offset set c.args.part r.0 r.1 c.parts.ensures.linked c.parts.ensures.matching c.args.index c.in-Some.element read) x
    (sym (ap (λ (y : Element Label). y.offset) c.element-2.view_is) ∙ e)

pub constant_value-at-requires-clause-there : goal.constant_value-at-requires-clause-there
constant_value-at-requires-clause-there c =
    let set = c.args.set.now in
    let r = c.requires.there in
    let read = element_seen set c.args.part r.0 r.1 c.parts.result.now c.index-parts-part.result c.parts.ensures.value (Some c.in-Some.element) c.args.index c.in-Some.ensures in
    λ x n e q. offset_there set c.args.part r.0 r.1 c.parts.ensures.linked c.parts.ensures.matching c.args.store.now.storage.globals (ap (λ (s : Storage). s.globals) c.requires.store) c.in-Some.element.offset
    (element_offset set c.args.part r.0 r.1 c.parts.ensures.linked c.parts.ensures.matching c.args.index c.in-Some.element read) x n
    (sym (ap (λ (y : Element Label). y.offset) c.element-2.view_is) ∙ e) q

pub has_entries-requires-clause-there : goal.has_entries-requires-clause-there
has_entries-requires-clause-there c =
    let r = c.requires.there in
    let below = table_below c.args.set.now c.args.part r.0 r.1 c.parts.ensures.linked c.parts.ensures.matching c.in-Some-table_of.table c.args.index r.2 r.3 c.in-Some-table_of.ensures.number in
    omega (arith, below, ap (λ (s : Storage). length s.tables) c.requires.store)

pub has_entries-requires-clause-short : goal.has_entries-requires-clause-short
has_entries-requires-clause-short c = λ t e.
    let short = tables_short (set_of c.args.set.now) c.parts.ensures.matching c.in-Some-table_of.table t (ap (λ (s : Storage). slice_get s.tables c.in-Some-table_of.table) (sym c.requires.store) ∙ e) in
    omega (arith, short)

pub returns : goal.returns
returns c = λ p e there is.
    let set = c.args.set.now in
    let s = c.args.store.now.storage in
    let read = element_seen set c.args.part p there c.parts.result.now c.index-parts-part.result c.parts.ensures.value (Some c.in-Some.element) c.args.index c.in-Some.ensures in
    let same : c.in-Some.element ≡ e = same_Some c.in-Some.element e (sym read ∙ is) in
    let below = table_below set c.args.part p there c.parts.ensures.linked c.parts.ensures.matching c.in-Some-table_of.table c.args.index e is c.in-Some-table_of.ensures.number in
    let t = at_number s.tables c.in-Some-table_of.table (omega (arith, below, ap (λ (s : Storage). length s.tables) c.requires.store)) in
    let number = table_number set c.args.part p there c.parts.ensures.linked c.parts.ensures.matching c.in-Some-table_of.table c.in-Some-table_of.ensures.number in
    c.has_entries.ensures t.0 t.1
    ∙ ap (λ (n : ℕ). nat_le (c.constant_value-at.result + n) (length t.0.entries)) (c.count.ensures ∙ ap (λ (x : Element Label). length x.functions) same)
    ∙ element_test s p c.in-Some-table_of.table c.constant_value-at.result e t.0 number t.1 (c.constant_value-at.ensures p there ∙ ap (λ (x : Element Label). offset_of s p x.offset) (c.element-2.view_is ∙ same))
