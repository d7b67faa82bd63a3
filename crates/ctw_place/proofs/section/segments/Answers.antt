use Rattle.std.proofs.Common.{◌<◌, length, arith}
use Rattle.ctw_module.specs.Trees.{tree}
use Rattle.ctw_write.specs.Canon.{segment_text}
use Rattle.ctw_write.proofs.Listed.{listed_next, item_there}
use Rattle.ctw_place.proofs.section.segments.Goals as goal

pub loop-i-preserved : goal.loop-i-preserved
loop-i-preserved c =
    let segments = (tree c.args.m.now).segments in
    let lt : c.loop-i.i < length segments = omega (arith, c.segment_count-count.ensures, c.loop-i-test.true) in
    let a = item_there segments c.loop-i.i lt in
    listed_next segment_text segments c.loop-i.i a.0 c.put_u32.new.out.items c.loop-i.out.items c.put_nth_segment.new.out.items a.1 (c.in_ok-put_nth_segment.ensures a.0 a.1) c.loop-i.invariant
