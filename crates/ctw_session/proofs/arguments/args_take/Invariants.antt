use Rattle.std.proofs.Common.{◌≡◌, ◌≤◌, ◌*◌, length}
use Rattle.ctw_session.proofs.Taking.{TakenTo}
use Rattle.ctw_session.proofs.arguments.args_take.Given as goal

abbrev pub invariant-each : goal.invariant-each
invariant-each l = TakenTo l.params l.args l.i l.count × (length l.params ≡ length l.args) × (l.count ≤ 8 * l.i)
