use Rattle.ctw_leb.proofs.Loops.{left_step}
use Rattle.ctw_form.specs.Read.{export_at}
use Rattle.ctw_read.proofs.lists.exports.Goals as goal

pub exports-preserved : goal.exports-preserved
exports-preserved c = left_step export_at c.in_ok-count.count c.number.new.cursor c.exports.counter c.exports.cursor c.export.new.cursor _ c.exports-test.true c.exports.invariant c.in_ok-export.ensures
