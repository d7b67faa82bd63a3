use Rattle.std.proofs.Common.{◌<◌, length, arith}
use Rattle.ctw_module.specs.Trees.{tree}
use Rattle.ctw_write.specs.Canon.{element_text}
use Rattle.ctw_write.proofs.Listed.{listed_next, item_there}
use Rattle.ctw_place.proofs.section.elements.Goals as goal

pub loop-i-preserved : goal.loop-i-preserved
loop-i-preserved c =
    let elements = (tree c.args.m.now).elements in
    let lt : c.loop-i.i < length elements = omega (arith, c.element_count-count.ensures, c.loop-i-test.true) in
    let a = item_there elements c.loop-i.i lt in
    listed_next element_text elements c.loop-i.i a.0 c.put_u32.new.out.items c.loop-i.out.items c.put_nth_element.new.out.items a.1 (c.in_ok-put_nth_element.ensures a.0 a.1) c.loop-i.invariant
