use Rattle.std.proofs.Common.{sym, ◌∙◌, arith}
use Rattle.ctw_module.specs.Trees.{view_module}
use Rattle.ctw_link.proofs.EntryBounds.{functions_below}
use Rattle.ctw_link.proofs.Folding.{folded_more, folded_all}
use Rattle.ctw_link.proofs.users.EntriesUsed.take_elements.Goals as goal

pub take_element-requires-clause-functions : goal.take_element-requires-clause-functions
take_element-requires-clause-functions c = functions_below (view_module c.args.m.now) c.elements.i c.in-Some.element c.requires.valid (sym c.in-Some.ensures)

pub elements-preserved : goal.elements-preserved
elements-preserved c = record {
  taken = folded_more _ _ _ _ _ _ c.elements.i _ (sym c.in-Some.ensures) c.in_ok-take_element.ensures.entries c.elements.invariant.taken;
  count = c.in_ok-take_element.ensures.count ∙ c.elements.invariant.count;
}

pub returns-clause-entries : goal.returns-clause-entries
returns-clause-entries c = folded_all _ _ _ _ _ c.elements.i (omega (arith, c.element_count-i-end.ensures, c.elements-test.false)) c.elements.invariant.taken
