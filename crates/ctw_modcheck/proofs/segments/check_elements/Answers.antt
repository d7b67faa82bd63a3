use Rattle.std.proofs.Common.{arith, sym}
use Rattle.std.proofs.lemmas.Result.{err_from_is_err_and}
use Rattle.ctw_module.specs.Trees.{tree}
use Rattle.ctw_modcheck.specs.Faults.{element_fault}
use Rattle.ctw_modcheck.proofs.Loops.{reached_none, reached_more, reached_fault, reached_all, at_item}
use Rattle.ctw_modcheck.proofs.segments.check_elements.Goals as goal

pub elements-init : goal.elements-init
elements-init c = reached_none _ _ 0

pub elements-preserved : goal.elements-preserved
elements-preserved c =
    let m = tree c.args.m.now in
    let here = at_item (element_fault m) m.elements c.elements.i c.in-Some.element _ (sym c.in-Some.ensures) c.in_ok-check_element.ensures in
    reached_more (element_fault m) m.elements 0 c.elements.i here c.elements.invariant

pub returns-in_err-check_element : goal.returns-in_err-check_element
returns-in_err-check_element c =
    let m = tree c.args.m.now in
    let here = at_item (element_fault m) m.elements c.elements.i c.in-Some.element _ (sym c.in-Some.ensures) c.in_err-check_element.ensures in
    let p = err_from_is_err_and c.from_residual.result c.from_residual.ensures.1 in
    rw (p.1, p.2) (reached_fault (element_fault m) m.elements 0 c.elements.i _ here c.elements.invariant)

pub returns : goal.returns
returns c = reached_all _ _ 0 _ (omega (arith, c.element_count-i-end.ensures, c.elements-test.false)) c.elements.invariant
