use Rattle.std.proofs.Common.{◌-◌}
use Rattle.ctw_form.proofs.Runs.{Halved}
use Rattle.ctw_module.proofs.locals.type_in.Given as goal

abbrev pub invariant-halves : goal.invariant-halves
invariant-halves l = Halved l.runs l.i l.low l.high

abbrev pub decreases-halves : goal.decreases-halves
decreases-halves l = l.high - l.low
