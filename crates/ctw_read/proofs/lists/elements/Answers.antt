use Rattle.ctw_leb.proofs.Loops.{left_step}
use Rattle.ctw_form.specs.Read.{element_at}
use Rattle.ctw_read.proofs.lists.elements.Goals as goal

pub elements-preserved : goal.elements-preserved
elements-preserved c =
    let s = c.in_ok-element.ensures in
    left_step (element_at c.args.ct) c.in_ok-count.count c.number.new.cursor c.elements.counter c.elements.cursor c.element.new.cursor s.0 c.elements-test.true c.elements.invariant s.1
