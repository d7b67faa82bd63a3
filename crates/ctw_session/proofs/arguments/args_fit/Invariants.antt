use Rattle.std.proofs.Common.{◌≡◌, length}
use Rattle.ctw_session.proofs.Taking.{FitFrom}
use Rattle.ctw_session.proofs.arguments.args_fit.Given as goal

abbrev pub invariant-each : goal.invariant-each
invariant-each l = FitFrom l.params l.args l.i × (length l.params ≡ length l.args)
