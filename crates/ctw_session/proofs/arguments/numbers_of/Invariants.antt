use Rattle.std.proofs.Common.{◌≡◌, length}
use Rattle.ctw_session.proofs.Taking.{FitFrom, TakenTo, ReadTo}
use Rattle.ctw_session.proofs.arguments.numbers_of.Given as goal

abbrev pub invariant-each : goal.invariant-each
invariant-each l =
    FitFrom l.params l.args l.i × TakenTo l.params l.args l.i l.used × ReadTo l.params l.args l.vault l.i l.used l.numbers.items × (length l.params ≡ length l.args)
