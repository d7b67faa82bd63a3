use Rattle.std.proofs.Common.{◌≡◌, Some, None, length, slice_get, sym, ap, ap₂, ◌∙◌, arith}
use Rattle.std.proofs.lemmas.Option.{same_Some, slice_get_within}
use Rattle.ctw_ops.specs.declared.types.Label.{Label}
use Rattle.ctw_ops.specs.Tree.{Segment}
use Rattle.ctw_semantics.specs.Stores.{Memory, Storage, with_bytes, written_at}
use Rattle.ctw_launch.specs.Launched.{offset_of}
use Rattle.ctw_session.proofs.SegmentsOf.{part_within, segment_seen, segment_offset, offset_known, offset_there, has_memory}
use Rattle.ctw_session.proofs.Loading.{segment_place, segment_written, segment_loading}
use Rattle.ctw_session.proofs.segments.write_segment.Goals as goal

pub bounds-parts-part : goal.bounds-parts-part
bounds-parts-part c =
    let r = c.requires.there in
    omega (arith, part_within c.args.set.now c.args.part r.0 r.1, ap length c.parts.ensures.value)

pub unreachable-requires : goal.unreachable-requires
unreachable-requires c =
    let set = c.args.set.now in
    let r = c.requires.there in
    let none = segment_seen set c.args.part r.0 r.1 c.parts.result.now c.index-parts-part.result c.parts.ensures.value None c.args.index c.in_default.ensures in
    absurd (let e = sym none ∙ r.3 in cc)

pub memory_of-requires : goal.memory_of-requires
memory_of-requires c = let r = c.requires.there in part_within c.args.set.now c.args.part r.0 r.1

pub unreachable-requires-in_default-memory_of : goal.unreachable-requires-in_default-memory_of
unreachable-requires-in_default-memory_of c =
    let r = c.requires.there in
    has_memory c.args.set.now c.args.part r.0 r.1 c.parts.ensures.linked c.parts.ensures.matching c.args.index r.2 r.3 c.in_default-memory_of.ensures.number

pub constant_value-at-requires-clause-known : goal.constant_value-at-requires-clause-known
constant_value-at-requires-clause-known c =
    let set = c.args.set.now in
    let r = c.requires.there in
    let read = segment_seen set c.args.part r.0 r.1 c.parts.result.now c.index-parts-part.result c.parts.ensures.value (Some c.in-Some.segment) c.args.index c.in-Some.ensures in
    λ x e. offset_known set c.args.part r.0 r.1 c.parts.ensures.linked c.parts.ensures.matching c.in-Some.segment.offset
    (segment_offset set c.args.part r.0 r.1 c.parts.ensures.linked c.parts.ensures.matching c.args.index c.in-Some.segment read) x
    (sym (ap (λ (y : Segment Label). y.offset) c.segment-2.view_is) ∙ e)

pub constant_value-at-requires-clause-there : goal.constant_value-at-requires-clause-there
constant_value-at-requires-clause-there c =
    let set = c.args.set.now in
    let r = c.requires.there in
    let read = segment_seen set c.args.part r.0 r.1 c.parts.result.now c.index-parts-part.result c.parts.ensures.value (Some c.in-Some.segment) c.args.index c.in-Some.ensures in
    λ x n e q. offset_there set c.args.part r.0 r.1 c.parts.ensures.linked c.parts.ensures.matching c.args.store.now.storage.globals c.requires.loading.globals c.in-Some.segment.offset
    (segment_offset set c.args.part r.0 r.1 c.parts.ensures.linked c.parts.ensures.matching c.args.index c.in-Some.segment read) x n
    (sym (ap (λ (y : Segment Label). y.offset) c.segment-2.view_is) ∙ e) q

pub overflow_cast-at : goal.overflow_cast-at
overflow_cast-at c =
    let r = c.requires.there in
    let set = c.args.set.now in
    let read = segment_seen set c.args.part r.0 r.1 c.parts.result.now c.index-parts-part.result c.parts.ensures.value (Some c.in-Some.segment) c.args.index c.in-Some.ensures in
    let same : c.in-Some.segment ≡ r.2 = same_Some c.in-Some.segment r.2 (sym read ∙ r.3) in
    let h = segment_place set c.parts.ensures.linked c.parts.ensures.matching c.args.store.now.storage c.requires.loading c.args.part r.0 r.1 c.args.index c.in-Some-memory_of.memory c.constant_value-at.result r.2 r.3 c.in-Some-memory_of.ensures.number (c.constant_value-at.ensures r.0 r.1 ∙ ap (λ (x : Segment Label). offset_of c.args.store.now.storage r.0 x.offset) (c.segment-2.view_is ∙ same)) in
    omega (arith, h.room, h.short)

pub overflow_cast-count : goal.overflow_cast-count
overflow_cast-count c =
    let r = c.requires.there in
    let set = c.args.set.now in
    let read = segment_seen set c.args.part r.0 r.1 c.parts.result.now c.index-parts-part.result c.parts.ensures.value (Some c.in-Some.segment) c.args.index c.in-Some.ensures in
    let same : c.in-Some.segment ≡ r.2 = same_Some c.in-Some.segment r.2 (sym read ∙ r.3) in
    let h = segment_place set c.parts.ensures.linked c.parts.ensures.matching c.args.store.now.storage c.requires.loading c.args.part r.0 r.1 c.args.index c.in-Some-memory_of.memory c.constant_value-at.result r.2 r.3 c.in-Some-memory_of.ensures.number (c.constant_value-at.ensures r.0 r.1 ∙ ap (λ (x : Segment Label). offset_of c.args.store.now.storage r.0 x.offset) (c.segment-2.view_is ∙ same)) in
    omega (arith, h.room, h.short, ap (λ (x : Segment Label). length x.bytes) (c.segment-2.view_is ∙ same))

pub make_ready-requires-clause-there : goal.make_ready-requires-clause-there
make_ready-requires-clause-there c =
    let r = c.requires.there in
    let set = c.args.set.now in
    let read = segment_seen set c.args.part r.0 r.1 c.parts.result.now c.index-parts-part.result c.parts.ensures.value (Some c.in-Some.segment) c.args.index c.in-Some.ensures in
    let same : c.in-Some.segment ≡ r.2 = same_Some c.in-Some.segment r.2 (sym read ∙ r.3) in
    let h = segment_place set c.parts.ensures.linked c.parts.ensures.matching c.args.store.now.storage c.requires.loading c.args.part r.0 r.1 c.args.index c.in-Some-memory_of.memory c.constant_value-at.result r.2 r.3 c.in-Some-memory_of.ensures.number (c.constant_value-at.ensures r.0 r.1 ∙ ap (λ (x : Segment Label). offset_of c.args.store.now.storage r.0 x.offset) (c.segment-2.view_is ∙ same)) in
    slice_get_within c.args.store.now.storage.memories c.in-Some-memory_of.memory h.memory h.there

pub make_ready-requires-clause-inside : goal.make_ready-requires-clause-inside
make_ready-requires-clause-inside c = λ m at.
    let r = c.requires.there in
    let set = c.args.set.now in
    let read = segment_seen set c.args.part r.0 r.1 c.parts.result.now c.index-parts-part.result c.parts.ensures.value (Some c.in-Some.segment) c.args.index c.in-Some.ensures in
    let same : c.in-Some.segment ≡ r.2 = same_Some c.in-Some.segment r.2 (sym read ∙ r.3) in
    let h = segment_place set c.parts.ensures.linked c.parts.ensures.matching c.args.store.now.storage c.requires.loading c.args.part r.0 r.1 c.args.index c.in-Some-memory_of.memory c.constant_value-at.result r.2 r.3 c.in-Some-memory_of.ensures.number (c.constant_value-at.ensures r.0 r.1 ∙ ap (λ (x : Segment Label). offset_of c.args.store.now.storage r.0 x.offset) (c.segment-2.view_is ∙ same)) in
    let one : h.memory ≡ m = same_Some h.memory m (sym h.there ∙ at) in
    omega (arith, h.room, ap (λ (x : Segment Label). length x.bytes) (c.segment-2.view_is ∙ same), ap (λ (x : Memory). length x.bytes) one)

pub write_bytes-requires-clause-there : goal.write_bytes-requires-clause-there
write_bytes-requires-clause-there c =
    let r = c.requires.there in
    let set = c.args.set.now in
    let read = segment_seen set c.args.part r.0 r.1 c.parts.result.now c.index-parts-part.result c.parts.ensures.value (Some c.in-Some.segment) c.args.index c.in-Some.ensures in
    let same : c.in-Some.segment ≡ r.2 = same_Some c.in-Some.segment r.2 (sym read ∙ r.3) in
    let h = segment_place set c.parts.ensures.linked c.parts.ensures.matching c.args.store.now.storage c.requires.loading c.args.part r.0 r.1 c.args.index c.in-Some-memory_of.memory c.constant_value-at.result r.2 r.3 c.in-Some-memory_of.ensures.number (c.constant_value-at.ensures r.0 r.1 ∙ ap (λ (x : Segment Label). offset_of c.args.store.now.storage r.0 x.offset) (c.segment-2.view_is ∙ same)) in
    omega (arith, slice_get_within c.args.store.now.storage.memories c.in-Some-memory_of.memory h.memory h.there, ap (λ (x : Storage). length x.memories) c.in_ok-make_ready.ensures.same)

pub write_bytes-requires-clause-inside : goal.write_bytes-requires-clause-inside
write_bytes-requires-clause-inside c = λ m at.
    let r = c.requires.there in
    let set = c.args.set.now in
    let read = segment_seen set c.args.part r.0 r.1 c.parts.result.now c.index-parts-part.result c.parts.ensures.value (Some c.in-Some.segment) c.args.index c.in-Some.ensures in
    let same : c.in-Some.segment ≡ r.2 = same_Some c.in-Some.segment r.2 (sym read ∙ r.3) in
    let h = segment_place set c.parts.ensures.linked c.parts.ensures.matching c.args.store.now.storage c.requires.loading c.args.part r.0 r.1 c.args.index c.in-Some-memory_of.memory c.constant_value-at.result r.2 r.3 c.in-Some-memory_of.ensures.number (c.constant_value-at.ensures r.0 r.1 ∙ ap (λ (x : Segment Label). offset_of c.args.store.now.storage r.0 x.offset) (c.segment-2.view_is ∙ same)) in
    let one : h.memory ≡ m = same_Some h.memory m (sym h.there ∙ (ap (λ (x : Storage). slice_get x.memories c.in-Some-memory_of.memory) (sym c.in_ok-make_ready.ensures.same) ∙ at)) in
    omega (arith, h.room, ap (λ (x : Segment Label). length x.bytes) (c.segment-2.view_is ∙ same), ap (λ (x : Memory). length x.bytes) one)

pub returns-clause-written : goal.returns-clause-written
returns-clause-written c = λ p e there is.
    let set = c.args.set.now in
    let read = segment_seen set c.args.part p there c.parts.result.now c.index-parts-part.result c.parts.ensures.value (Some c.in-Some.segment) c.args.index c.in-Some.ensures in
    let same : c.in-Some.segment ≡ e = same_Some c.in-Some.segment e (sym read ∙ is) in
    let h = segment_place set c.parts.ensures.linked c.parts.ensures.matching c.args.store.now.storage c.requires.loading c.args.part p there c.args.index c.in-Some-memory_of.memory c.constant_value-at.result e is c.in-Some-memory_of.ensures.number (c.constant_value-at.ensures p there ∙ ap (λ (x : Segment Label). offset_of c.args.store.now.storage p x.offset) (c.segment-2.view_is ∙ same)) in
    let ready = c.in_ok-make_ready.ensures.same in
    let done = c.write_bytes.ensures h.memory (ap (λ (x : Storage). slice_get x.memories c.in-Some-memory_of.memory) ready ∙ h.there) in
    segment_written c.args.store.now.storage p c.in-Some-memory_of.memory c.constant_value-at.result e h c.write_bytes.new.store.storage
    (done ∙ ap₂ (λ (x : Storage) (y : Segment Label). with_bytes x c.in-Some-memory_of.memory h.memory (written_at c.constant_value-at.result y.bytes h.memory.bytes)) ready (c.segment-2.view_is ∙ same))

pub returns-clause-loading : goal.returns-clause-loading
returns-clause-loading c =
    let r = c.requires.there in
    let set = c.args.set.now in
    let read = segment_seen set c.args.part r.0 r.1 c.parts.result.now c.index-parts-part.result c.parts.ensures.value (Some c.in-Some.segment) c.args.index c.in-Some.ensures in
    let same : c.in-Some.segment ≡ r.2 = same_Some c.in-Some.segment r.2 (sym read ∙ r.3) in
    let h = segment_place set c.parts.ensures.linked c.parts.ensures.matching c.args.store.now.storage c.requires.loading c.args.part r.0 r.1 c.args.index c.in-Some-memory_of.memory c.constant_value-at.result r.2 r.3 c.in-Some-memory_of.ensures.number (c.constant_value-at.ensures r.0 r.1 ∙ ap (λ (x : Segment Label). offset_of c.args.store.now.storage r.0 x.offset) (c.segment-2.view_is ∙ same)) in
    let ready = c.in_ok-make_ready.ensures.same in
    let done = c.write_bytes.ensures h.memory (ap (λ (x : Storage). slice_get x.memories c.in-Some-memory_of.memory) ready ∙ h.there) in
    segment_loading c.args.store.now.storage r.0 c.in-Some-memory_of.memory c.constant_value-at.result set c.requires.loading r.2 h c.write_bytes.new.store.storage
    (done ∙ ap₂ (λ (x : Storage) (y : Segment Label). with_bytes x c.in-Some-memory_of.memory h.memory (written_at c.constant_value-at.result y.bytes h.memory.bytes)) ready (c.segment-2.view_is ∙ same))
