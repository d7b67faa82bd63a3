use Rattle.ctw_link.proofs.BlockMaps.{parts_none, parts_more, parts_all}
use Rattle.ctw_link.proofs.bodies.blocks_of.Goals as goal

pub parts-init : goal.parts-init
parts-init c = parts_none c.args.parts.now _ c.new-maps.ensures.items

pub parts-preserved : goal.parts-preserved
parts-preserved c =
    let e = c.in_ok-push_blocks.ensures in
    parts_more c.args.parts.now c.parts.part-index c.part-item.result c.parts.maps.items c.push_blocks.new.maps.items c.parts-test.true c.part-item.is e.0 e.1 e.2 c.parts.invariant

pub returns : goal.returns
returns c = parts_all c.args.parts.now c.parts.part-index c.parts.maps.items c.parts-test.false c.parts.invariant
