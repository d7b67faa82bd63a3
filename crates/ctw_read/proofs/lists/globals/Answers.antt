use Rattle.ctw_leb.proofs.Loops.{left_step}
use Rattle.ctw_form.specs.Read.{global_at}
use Rattle.ctw_read.proofs.lists.globals.Goals as goal

pub globals-preserved : goal.globals-preserved
globals-preserved c = left_step (global_at c.args.ct) c.in_ok-count.count c.number.new.cursor c.globals.counter c.globals.cursor c.global.new.cursor _ c.globals-test.true c.globals.invariant c.in_ok-_init.ensures
