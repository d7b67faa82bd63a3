use Rattle.std.proofs.Common.{arith}
use Rattle.ctw_module.specs.Trees.{tree}
use Rattle.ctw_link.proofs.BlockMaps.{told_none, told_more, told_all}
use Rattle.ctw_module.proofs.IndexSpaces.{functions_count}
use Rattle.ctw_link.proofs.bodies.push_blocks.Goals as goal

pub functions-init : goal.functions-init
functions-init c = told_none _ _ _ (omega arith)

pub functions-preserved : goal.functions-preserved
functions-preserved c =
    told_more _ c.args.m.now c.imported_count-imported.result c.functions.f c.functions.maps.items c.push.new.self.items c.in_ok-map.map c.imported_count-imported.ensures c.functions.auto.f c.in_ok-push.ensures.items
    c.in_ok-map.ensures c.functions.invariant

pub returns : goal.returns
returns c =
    told_all _ c.args.m.now c.imported_count-imported.result c.functions.f c.functions.maps.items c.imported_count-imported.ensures (omega (arith, c.functions.auto.f-end, functions_count (tree c.args.m.now)))
    c.functions.invariant
