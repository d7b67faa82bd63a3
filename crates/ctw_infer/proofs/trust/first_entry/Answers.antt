use Rattle.std.proofs.Common.{sym, arith}
use Rattle.ctw_module.specs.Trees.{view_module}
use Rattle.ctw_infer.specs.Misuse.{trusted_among}
use Rattle.ctw_infer.proofs.Firsts.{left_begins, left_on, left_found, left_ends}
use Rattle.ctw_infer.proofs.trust.first_entry.Goals as goal

pub elements-init : goal.elements-init
elements-init c = left_begins (λ e. trusted_among c.args.p.now e.functions) (view_module c.args.m.now).elements

pub returns-in-Some-first_in_element : goal.returns-in-Some-first_in_element
returns-in-Some-first_in_element c =
    left_found (λ e. trusted_among c.args.p.now e.functions) (view_module c.args.m.now).elements c.elements.i c.in-Some.element c.in-Some-first_in_element.func (sym c.in-Some.ensures) c.in-Some-first_in_element.ensures c.elements.invariant

pub elements-preserved : goal.elements-preserved
elements-preserved c =
    left_on (λ e. trusted_among c.args.p.now e.functions) (view_module c.args.m.now).elements c.elements.i c.in-Some.element (sym c.in-Some.ensures) c.in_default-first_in_element.ensures c.elements.invariant

pub returns : goal.returns
returns c = left_ends (λ e. trusted_among c.args.p.now e.functions) (view_module c.args.m.now).elements c.elements.i (omega (arith, c.elements-test.false, c.element_count-i-end.ensures)) c.elements.invariant
