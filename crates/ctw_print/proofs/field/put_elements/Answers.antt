use Rattle.std.proofs.Common.{◌<◌, length, arith}
use Rattle.std.specs.String.{string_bytes}
use Rattle.ctw_module.specs.Trees.{tree}
use Rattle.ctw_print.specs.Texts.{element_line}
use Rattle.ctw_print.proofs.Listed.{listed_next, item_there}
use Rattle.ctw_print.proofs.field.put_elements.Goals as goal

pub loop-i-preserved : goal.loop-i-preserved
loop-i-preserved c =
    let elements = (tree c.args.m.now).elements in
    let lt : c.loop-i.i < length elements = omega arith in
    let a = item_there elements c.loop-i.i lt in
    listed_next element_line elements c.loop-i.i a.0 (string_bytes c.args.out.now) (string_bytes c.loop-i.out) (string_bytes c.put_nth_element.new.out) a.1 (c.in_ok-put_nth_element.ensures a.0 a.1) c.loop-i.invariant
