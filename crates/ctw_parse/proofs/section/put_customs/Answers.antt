use Rattle.std.proofs.Common.{arith}
use Rattle.ctw_parse.proofs.Sections.{item_at, customs_more, customs_all}
use Rattle.ctw_parse.proofs.section.put_customs.Goals as goal

pub items-preserved : goal.items-preserved
items-preserved c =
    customs_more c.args.customs.now c.args.place c.items.custom-index c.custom-item.result c.args.out.now.items c.items.out.items c.put_placed.new.out.items (item_at c.args.customs.now c.items.custom-index c.custom-item.result (omega arith) c.custom-item.is)
    c.in_ok-put_placed.ensures.written c.in_ok-put_placed.ensures.size c.items.invariant

pub returns-clause-sizes : goal.returns-clause-sizes
returns-clause-sizes c = customs_all c.args.customs.now c.args.place c.items.custom-index (omega arith) c.items.invariant.1
