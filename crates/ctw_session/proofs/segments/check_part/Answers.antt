use Rattle.std.proofs.Common.{refl}
use Rattle.ctw_launch.specs.Launched.{SegmentOutside, OfElements, OfData}
use Rattle.ctw_session.proofs.Checking.{is_named, element_outside, segment_outside, part_inside}
use Rattle.ctw_session.proofs.segments.check_part.Goals as goal

pub returns-in-Some : goal.returns-in-Some
returns-in-Some c = λ p others there. (
  SegmentOutside p.name OfElements c.in-Some.index,
  element_outside c.args.store.now.storage p others c.in-Some.index (c.in-Some.ensures p (SegmentOutside p.name OfElements) there),
  (is_named c.args.set.now c.args.part p there, refl),
)

pub returns-in-Some-outside_segment : goal.returns-in-Some-outside_segment
returns-in-Some-outside_segment c = λ p others there. (
  SegmentOutside p.name OfData c.in-Some-outside_segment.index,
  segment_outside c.args.store.now.storage p others c.in-Some-outside_segment.index (c.in_default.ensures p (SegmentOutside p.name OfElements) there) (c.in-Some-outside_segment.ensures p (SegmentOutside p.name OfData) there),
  (is_named c.args.set.now c.args.part p there, refl),
)

pub returns : goal.returns
returns c = λ p others there.
    part_inside c.args.store.now.storage p others (c.in_default.ensures p (SegmentOutside p.name OfElements) there) (c.in_default-outside_segment.ensures p (SegmentOutside p.name OfData) there)
