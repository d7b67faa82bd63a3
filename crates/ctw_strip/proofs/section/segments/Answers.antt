use Rattle.std.proofs.Common.{◌<◌, ◌≤◌, length, arith}
use Rattle.ctw_ops.specs.Tree.{Segment}
use Rattle.ctw_ops.specs.declared.types.Label.{Label}
use Rattle.ctw_ops.specs.Erasure.{erase_segment}
use Rattle.ctw_module.specs.Trees.{tree}
use Rattle.ctw_write.specs.Canon.{segment_text}
use Rattle.ctw_write.proofs.Listed.{listed_next, item_there}
use Rattle.ctw_strip.proofs.Mapped.{mapped_end}
use Rattle.ctw_strip.proofs.section.segments.Goals as goal

pub loop-i-preserved : goal.loop-i-preserved
loop-i-preserved c =
    let segments = (tree c.args.m.now).segments in
    let lt : c.loop-i.i < length segments = omega (arith, c.segment_count-count.ensures, c.loop-i-test.true) in
    let a = item_there segments c.loop-i.i lt in
    listed_next (λ (x : Segment Label). segment_text (erase_segment x)) segments c.loop-i.i a.0 c.put_u32.new.out.items c.loop-i.out.items c.put_nth_segment.new.out.items a.1 (c.in_ok-put_nth_segment.ensures a.0 a.1) c.loop-i.invariant

pub returns : goal.returns
returns c =
    let past : c.segment_count-count.result ≤ c.loop-i.i = omega (arith, c.loop-i-test.false) in
    mapped_end segment_text erase_segment (tree c.args.m.now).segments c.loop-i.i c.segment_count-count.result c.args.out.now.items c.put_u32.new.out.items c.loop-i.out.items c.segment_count-count.ensures past c.in_ok-put_u32.ensures.put c.loop-i.invariant
