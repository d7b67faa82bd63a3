use Rattle.std.proofs.Common.{arith}
use Rattle.ctw_link.proofs.SizeSums.{summed_none, summed_room, summed_more, summed_all}
use Rattle.ctw_link.proofs.sizes.pages_of_all.Goals as goal

pub parts-init : goal.parts-init
parts-init c = summed_none _ 65536 c.args.parts.now

pub overflow_add-sum : goal.overflow_add-sum
overflow_add-sum c = let room = summed_room _ 65536 c.args.parts.now c.parts.part-index c.parts.sum _ c.pages_in-sum.ensures.few c.parts.invariant in omega (arith, room)

pub parts-preserved : goal.parts-preserved
parts-preserved c = summed_more _ 65536 c.args.parts.now c.parts.part-index c.parts.sum _ c.part-item.result c.parts-test.true c.part-item.is c.pages_in-sum.ensures.pages c.pages_in-sum.ensures.few c.parts.invariant

pub returns : goal.returns
returns c = summed_all _ 65536 c.args.parts.now c.parts.part-index c.parts.sum (omega arith) c.parts.invariant
