use Rattle.std.proofs.Common.{◌∙◌, arith}
use Rattle.ctw_module.specs.Trees.{view_module}
use Rattle.ctw_link.proofs.EntryBounds.{entry_below}
use Rattle.ctw_link.proofs.Folding.{filtered_more}
use Rattle.ctw_link.proofs.users.EntriesUsed.take_element.Goals as goal

pub take-requires : goal.take-requires
take-requires c =
    let below = entry_below (view_module c.args.m.now) c.func.result c.type_of_func.result c.requires.valid c.type_of_func.ensures in
    omega (arith, below, c.functions.invariant.count, c.requires.count)

pub functions-preserved : goal.functions-preserved
functions-preserved c = record {
  taken = filtered_more _ _ _ _ _ _ c.functions.k _ _ c.func.ensures c.type_of_func.ensures c.in_ok-take.ensures.entries c.functions.invariant.taken;
  count = c.in_ok-take.ensures.count ∙ c.functions.invariant.count;
}
