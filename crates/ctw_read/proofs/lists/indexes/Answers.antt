use Rattle.std.proofs.Common.{refl}
use Rattle.ctw_leb.proofs.Loops.{left_step, left_none}
use Rattle.ctw_form.specs.Read.{number_at}
use Rattle.ctw_read.proofs.lists.indexes.Goals as goal

pub indexes-preserved : goal.indexes-preserved
indexes-preserved c = left_step number_at c.in_ok-count.count c.number.new.cursor c.indexes.counter c.indexes.cursor c.number-in-indexes.new.cursor _ c.indexes-test.true c.indexes.invariant c.in_ok-number.ensures

pub returns : goal.returns
returns c =
    let d = left_none number_at c.in_ok-count.count c.number.new.cursor c.indexes.counter c.indexes.cursor c.indexes-test.false c.indexes.invariant in
    (d.0, rw (c.in_ok-count.ensures, d.1) refl, d.2)
