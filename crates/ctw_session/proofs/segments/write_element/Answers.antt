use Rattle.std.proofs.Common.{◌≡◌, Some, None, length, map, slice_get, sym, ap, ◌∙◌, arith}
use Rattle.std.proofs.lemmas.List.{length-map}
use Rattle.std.proofs.lemmas.Option.{same_Some, slice_get_within}
use Rattle.ctw_ops.specs.declared.types.Label.{Label}
use Rattle.ctw_ops.specs.Tree.{Element}
use Rattle.ctw_semantics.specs.Stores.{Table}
use Rattle.ctw_launch.specs.Launched.{offset_of}
use Rattle.ctw_session.proofs.SegmentsOf.{part_within, element_seen, element_offset, offset_known, offset_there, has_table, function_known, entry_is}
use Rattle.ctw_session.proofs.Loading.{element_place, putting_none, table_now, table_there_now, tables_same, putting_more, putting_all, element_written, element_loading}
use Rattle.ctw_session.proofs.segments.write_element.Goals as goal

pub bounds-parts-part : goal.bounds-parts-part
bounds-parts-part c =
    let r = c.requires.there in
    omega (arith, part_within c.args.set.now c.args.part r.0 r.1, ap length c.parts.ensures.value)

pub unreachable-requires : goal.unreachable-requires
unreachable-requires c =
    let set = c.args.set.now in
    let r = c.requires.there in
    let none = element_seen set c.args.part r.0 r.1 c.parts.result.now c.index-parts-part.result c.parts.ensures.value None c.args.index c.in_default.ensures in
    absurd (let e = sym none ∙ r.3 in cc)

pub table_of-requires : goal.table_of-requires
table_of-requires c = let r = c.requires.there in part_within c.args.set.now c.args.part r.0 r.1

pub unreachable-requires-in_default-table_of : goal.unreachable-requires-in_default-table_of
unreachable-requires-in_default-table_of c =
    let r = c.requires.there in
    has_table c.args.set.now c.args.part r.0 r.1 c.parts.ensures.linked c.parts.ensures.matching c.args.index r.2 r.3 c.in_default-table_of.ensures.number

pub constant_value-at-requires-clause-known : goal.constant_value-at-requires-clause-known
constant_value-at-requires-clause-known c =
    let set = c.args.set.now in
    let r = c.requires.there in
    let read = element_seen set c.args.part r.0 r.1 c.parts.result.now c.index-parts-part.result c.parts.ensures.value (Some c.in-Some.element) c.args.index c.in-Some.ensures in
    λ x e. offset_known set c.args.part r.0 r.1 c.parts.ensures.linked c.parts.ensures.matching c.in-Some.element.offset
    (element_offset set c.args.part r.0 r.1 c.parts.ensures.linked c.parts.ensures.matching c.args.index c.in-Some.element read) x
    (sym (ap (λ (y : Element Label). y.offset) c.element-2.view_is) ∙ e)

pub constant_value-at-requires-clause-there : goal.constant_value-at-requires-clause-there
constant_value-at-requires-clause-there c =
    let set = c.args.set.now in
    let r = c.requires.there in
    let read = element_seen set c.args.part r.0 r.1 c.parts.result.now c.index-parts-part.result c.parts.ensures.value (Some c.in-Some.element) c.args.index c.in-Some.ensures in
    λ x n e q. offset_there set c.args.part r.0 r.1 c.parts.ensures.linked c.parts.ensures.matching c.args.store.now.storage.globals c.requires.loading.globals c.in-Some.element.offset
    (element_offset set c.args.part r.0 r.1 c.parts.ensures.linked c.parts.ensures.matching c.args.index c.in-Some.element read) x n
    (sym (ap (λ (y : Element Label). y.offset) c.element-2.view_is) ∙ e) q

pub overflow_cast-at : goal.overflow_cast-at
overflow_cast-at c =
    let r = c.requires.there in
    let set = c.args.set.now in
    let read = element_seen set c.args.part r.0 r.1 c.parts.result.now c.index-parts-part.result c.parts.ensures.value (Some c.in-Some.element) c.args.index c.in-Some.ensures in
    let same : c.in-Some.element ≡ r.2 = same_Some c.in-Some.element r.2 (sym read ∙ r.3) in
    let h = element_place set c.parts.ensures.linked c.parts.ensures.matching c.args.store.now.storage c.requires.loading c.args.part r.0 r.1 c.args.index c.in-Some-table_of.table c.constant_value-at.result r.2 r.3 c.in-Some-table_of.ensures.number (c.constant_value-at.ensures r.0 r.1 ∙ ap (λ (x : Element Label). offset_of c.args.store.now.storage r.0 x.offset) (c.element-2.view_is ∙ same)) in
    omega (arith, h.room, h.short)

pub functions-init : goal.functions-init
functions-init c = λ p e t there is at. putting_none c.args.store.now.storage c.in-Some-table_of.table t c.constant_value-at.result (map (slice_get p.numbers.functions) e.functions) at

pub overflow_add-at : goal.overflow_add-at
overflow_add-at c =
    let r = c.requires.there in
    let set = c.args.set.now in
    let read = element_seen set c.args.part r.0 r.1 c.parts.result.now c.index-parts-part.result c.parts.ensures.value (Some c.in-Some.element) c.args.index c.in-Some.ensures in
    let same : c.in-Some.element ≡ r.2 = same_Some c.in-Some.element r.2 (sym read ∙ r.3) in
    let h = element_place set c.parts.ensures.linked c.parts.ensures.matching c.args.store.now.storage c.requires.loading c.args.part r.0 r.1 c.args.index c.in-Some-table_of.table c.constant_value-at.result r.2 r.3 c.in-Some-table_of.ensures.number (c.constant_value-at.ensures r.0 r.1 ∙ ap (λ (x : Element Label). offset_of c.args.store.now.storage r.0 x.offset) (c.element-2.view_is ∙ same)) in
    omega (arith, h.room, h.short, c.functions-test.true, c.count-i-end.ensures, ap (λ (x : Element Label). length x.functions) same)

pub func-requires-in-functions : goal.func-requires-in-functions
func-requires-in-functions c =
    let set = c.args.set.now in
    let r = c.requires.there in
    let read = element_seen set c.args.part r.0 r.1 c.parts.result.now c.index-parts-part.result c.parts.ensures.value (Some c.in-Some.element) c.args.index c.in-Some.ensures in
    function_known set c.args.part r.0 r.1 c.parts.ensures.linked c.parts.ensures.matching c.args.index c.in-Some.element read c.functions.i c.func.result c.func.ensures

pub set_entry-requires-clause-there : goal.set_entry-requires-clause-there
set_entry-requires-clause-there c =
    let r = c.requires.there in
    let set = c.args.set.now in
    let read = element_seen set c.args.part r.0 r.1 c.parts.result.now c.index-parts-part.result c.parts.ensures.value (Some c.in-Some.element) c.args.index c.in-Some.ensures in
    let same : c.in-Some.element ≡ r.2 = same_Some c.in-Some.element r.2 (sym read ∙ r.3) in
    let h = element_place set c.parts.ensures.linked c.parts.ensures.matching c.args.store.now.storage c.requires.loading c.args.part r.0 r.1 c.args.index c.in-Some-table_of.table c.constant_value-at.result r.2 r.3 c.in-Some-table_of.ensures.number (c.constant_value-at.ensures r.0 r.1 ∙ ap (λ (x : Element Label). offset_of c.args.store.now.storage r.0 x.offset) (c.element-2.view_is ∙ same)) in
    let w = c.functions.invariant r.0 r.2 h.table r.1 r.3 h.there in
    omega (arith, slice_get_within c.args.store.now.storage.tables c.in-Some-table_of.table h.table h.there, tables_same _ _ h.table _ _ _ _ h.there w)

pub set_entry-requires-clause-inside : goal.set_entry-requires-clause-inside
set_entry-requires-clause-inside c = λ t at.
    let r = c.requires.there in
    let set = c.args.set.now in
    let read = element_seen set c.args.part r.0 r.1 c.parts.result.now c.index-parts-part.result c.parts.ensures.value (Some c.in-Some.element) c.args.index c.in-Some.ensures in
    let same : c.in-Some.element ≡ r.2 = same_Some c.in-Some.element r.2 (sym read ∙ r.3) in
    let h = element_place set c.parts.ensures.linked c.parts.ensures.matching c.args.store.now.storage c.requires.loading c.args.part r.0 r.1 c.args.index c.in-Some-table_of.table c.constant_value-at.result r.2 r.3 c.in-Some-table_of.ensures.number (c.constant_value-at.ensures r.0 r.1 ∙ ap (λ (x : Element Label). offset_of c.args.store.now.storage r.0 x.offset) (c.element-2.view_is ∙ same)) in
    let w = c.functions.invariant r.0 r.2 h.table r.1 r.3 h.there in
    let now : t ≡ table_now _ _ h.table _ _ _ _ h.there w = same_Some t _ (sym at ∙ table_there_now _ _ h.table _ _ _ _ h.there w) in
    omega (arith, h.room, w.size, ap (λ (x : Table). length x.entries) now, c.functions-test.true, c.count-i-end.ensures, ap (λ (x : Element Label). length x.functions) same)

pub functions-preserved : goal.functions-preserved
functions-preserved c = λ p e t there is at.
    let set = c.args.set.now in
    let read = element_seen set c.args.part p there c.parts.result.now c.index-parts-part.result c.parts.ensures.value (Some c.in-Some.element) c.args.index c.in-Some.ensures in
    let same : c.in-Some.element ≡ e = same_Some c.in-Some.element e (sym read ∙ is) in
    let h = element_place set c.parts.ensures.linked c.parts.ensures.matching c.args.store.now.storage c.requires.loading c.args.part p there c.args.index c.in-Some-table_of.table c.constant_value-at.result e is c.in-Some-table_of.ensures.number (c.constant_value-at.ensures p there ∙ ap (λ (x : Element Label). offset_of c.args.store.now.storage p x.offset) (c.element-2.view_is ∙ same)) in
    let table : h.table ≡ t = same_Some h.table t (sym h.there ∙ at) in
    let w = c.functions.invariant p e t there is at in
    let count : length (map (slice_get p.numbers.functions) e.functions) ≡ length e.functions = length-map e.functions (slice_get p.numbers.functions) in
    let index : slice_get e.functions c.functions.i ≡ Some c.func.result = ap (λ (x : Element Label). slice_get x.functions c.functions.i) (sym same) ∙ c.func.ensures in
    putting_more _ _ t _ _ _ _ at w (Some c.func-in-functions.result) c.set_entry.new.self.storage (omega (arith, h.room, count, ap (λ (x : Table). length x.entries) table))
    (entry_is set c.args.part p there e c.functions.i c.func.result c.func-in-functions.result index c.func-in-functions.ensures.number)
    (c.set_entry.ensures.set (table_now _ _ t _ _ _ _ at w) (table_there_now _ _ t _ _ _ _ at w))

pub returns-clause-written : goal.returns-clause-written
returns-clause-written c = λ p e there is.
    let set = c.args.set.now in
    let read = element_seen set c.args.part p there c.parts.result.now c.index-parts-part.result c.parts.ensures.value (Some c.in-Some.element) c.args.index c.in-Some.ensures in
    let same : c.in-Some.element ≡ e = same_Some c.in-Some.element e (sym read ∙ is) in
    let h = element_place set c.parts.ensures.linked c.parts.ensures.matching c.args.store.now.storage c.requires.loading c.args.part p there c.args.index c.in-Some-table_of.table c.constant_value-at.result e is c.in-Some-table_of.ensures.number (c.constant_value-at.ensures p there ∙ ap (λ (x : Element Label). offset_of c.args.store.now.storage p x.offset) (c.element-2.view_is ∙ same)) in
    let w = c.functions.invariant p e h.table there is h.there in
    let count : length (map (slice_get p.numbers.functions) e.functions) ≡ length e.functions = length-map e.functions (slice_get p.numbers.functions) in
    let all = putting_all _ _ h.table _ _ _ _ h.there w (omega (arith, c.functions-test.false, c.count-i-end.ensures, count, ap (λ (x : Element Label). length x.functions) same)) in
    element_written c.args.store.now.storage p c.in-Some-table_of.table c.constant_value-at.result e h c.functions.store.storage all

pub returns-clause-loading : goal.returns-clause-loading
returns-clause-loading c =
    let r = c.requires.there in
    let set = c.args.set.now in
    let read = element_seen set c.args.part r.0 r.1 c.parts.result.now c.index-parts-part.result c.parts.ensures.value (Some c.in-Some.element) c.args.index c.in-Some.ensures in
    let same : c.in-Some.element ≡ r.2 = same_Some c.in-Some.element r.2 (sym read ∙ r.3) in
    let h = element_place set c.parts.ensures.linked c.parts.ensures.matching c.args.store.now.storage c.requires.loading c.args.part r.0 r.1 c.args.index c.in-Some-table_of.table c.constant_value-at.result r.2 r.3 c.in-Some-table_of.ensures.number (c.constant_value-at.ensures r.0 r.1 ∙ ap (λ (x : Element Label). offset_of c.args.store.now.storage r.0 x.offset) (c.element-2.view_is ∙ same)) in
    let w = c.functions.invariant r.0 r.2 h.table r.1 r.3 h.there in
    let count : length (map (slice_get r.0.numbers.functions) r.2.functions) ≡ length r.2.functions = length-map r.2.functions (slice_get r.0.numbers.functions) in
    let all = putting_all _ _ h.table _ _ _ _ h.there w (omega (arith, c.functions-test.false, c.count-i-end.ensures, count, ap (λ (x : Element Label). length x.functions) same)) in
    element_loading c.args.store.now.storage r.0 c.in-Some-table_of.table c.constant_value-at.result set c.requires.loading r.2 h c.functions.store.storage all
