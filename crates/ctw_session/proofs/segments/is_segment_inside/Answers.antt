use Rattle.std.proofs.Common.{◌≡◌, ◌+◌, Some, None, length, nat_le, sym, ap, ◌∙◌, arith}
use Rattle.std.proofs.lemmas.Option.{same_Some}
use Rattle.ctw_ops.specs.declared.types.Label.{Label}
use Rattle.ctw_ops.specs.Tree.{Segment}
use Rattle.ctw_semantics.specs.Stores.{Storage}
use Rattle.ctw_launch.specs.Launched.{offset_of}
use Rattle.ctw_session.proofs.Copying.{at_number}
use Rattle.ctw_session.proofs.SegmentsOf.{part_within, segment_seen, segment_offset, offset_known, offset_there, has_memory, memory_number, memory_below, segment_test}
use Rattle.ctw_session.proofs.segments.is_segment_inside.Goals as goal

pub bounds-parts-part : goal.bounds-parts-part
bounds-parts-part c =
    let r = c.requires.there in
    omega (arith, part_within c.args.set.now c.args.part r.0 r.1, ap length c.parts.ensures.value)

pub unreachable-requires : goal.unreachable-requires
unreachable-requires c =
    let set = c.args.set.now in
    let r = c.requires.there in
    let none = segment_seen set c.args.part r.0 r.1 c.parts.result.now c.index-parts-part.result c.parts.ensures.value None c.args.index c.in_default.ensures in
    absurd (let e = sym none ∙ r.3 in cc)

pub memory_of-requires : goal.memory_of-requires
memory_of-requires c = let r = c.requires.there in part_within c.args.set.now c.args.part r.0 r.1

pub unreachable-requires-in_default-memory_of : goal.unreachable-requires-in_default-memory_of
unreachable-requires-in_default-memory_of c =
    let r = c.requires.there in
    has_memory c.args.set.now c.args.part r.0 r.1 c.parts.ensures.linked c.parts.ensures.matching c.args.index r.2 r.3 c.in_default-memory_of.ensures.number

pub constant_value-at-requires-clause-known : goal.constant_value-at-requires-clause-known
constant_value-at-requires-clause-known c =
    let set = c.args.set.now in
    let r = c.requires.there in
    let read = segment_seen set c.args.part r.0 r.1 c.parts.result.now c.index-parts-part.result c.parts.ensures.value (Some c.in-Some.segment) c.args.index c.in-Some.ensures in
    λ x e. offset_known set c.args.part r.0 r.1 c.parts.ensures.linked c.parts.ensures.matching c.in-Some.segment.offset
    (segment_offset set c.args.part r.0 r.1 c.parts.ensures.linked c.parts.ensures.matching c.args.index c.in-Some.segment read) x
    (sym (ap (λ (y : Segment Label). y.offset) c.segment-2.view_is) ∙ e)

pub constant_value-at-requires-clause-there : goal.constant_value-at-requires-clause-there
constant_value-at-requires-clause-there c =
    let set = c.args.set.now in
    let r = c.requires.there in
    let read = segment_seen set c.args.part r.0 r.1 c.parts.result.now c.index-parts-part.result c.parts.ensures.value (Some c.in-Some.segment) c.args.index c.in-Some.ensures in
    λ x n e q. offset_there set c.args.part r.0 r.1 c.parts.ensures.linked c.parts.ensures.matching c.args.store.now.storage.globals (ap (λ (s : Storage). s.globals) c.requires.store) c.in-Some.segment.offset
    (segment_offset set c.args.part r.0 r.1 c.parts.ensures.linked c.parts.ensures.matching c.args.index c.in-Some.segment read) x n
    (sym (ap (λ (y : Segment Label). y.offset) c.segment-2.view_is) ∙ e) q

pub has_bytes-requires : goal.has_bytes-requires
has_bytes-requires c =
    let r = c.requires.there in
    let below = memory_below c.args.set.now c.args.part r.0 r.1 c.parts.ensures.linked c.parts.ensures.matching c.in-Some-memory_of.memory c.args.index r.2 r.3 c.in-Some-memory_of.ensures.number in
    omega (arith, below, ap (λ (s : Storage). length s.memories) c.requires.store)

pub returns : goal.returns
returns c = λ p e there is.
    let set = c.args.set.now in
    let s = c.args.store.now.storage in
    let read = segment_seen set c.args.part p there c.parts.result.now c.index-parts-part.result c.parts.ensures.value (Some c.in-Some.segment) c.args.index c.in-Some.ensures in
    let same : c.in-Some.segment ≡ e = same_Some c.in-Some.segment e (sym read ∙ is) in
    let below = memory_below set c.args.part p there c.parts.ensures.linked c.parts.ensures.matching c.in-Some-memory_of.memory c.args.index e is c.in-Some-memory_of.ensures.number in
    let t = at_number s.memories c.in-Some-memory_of.memory (omega (arith, below, ap (λ (s : Storage). length s.memories) c.requires.store)) in
    let number = memory_number set c.args.part p there c.parts.ensures.linked c.parts.ensures.matching c.in-Some-memory_of.memory c.in-Some-memory_of.ensures.number in
    c.has_bytes.ensures t.0 t.1
    ∙ ap (λ (x : Segment Label). nat_le (c.constant_value-at.result + length x.bytes) (length t.0.bytes)) (c.segment-2.view_is ∙ same)
    ∙ segment_test s p c.in-Some-memory_of.memory c.constant_value-at.result e t.0 number t.1 (c.constant_value-at.ensures p there ∙ ap (λ (x : Segment Label). offset_of s p x.offset) (c.segment-2.view_is ∙ same))
