use Rattle.ctw_launch.proofs.Untrusted.{set_untrusted}
use Rattle.ctw_moves.proofs.QuietMoves.{plays_quiet, untrusted_alike}
use Rattle.ctw_moves.proofs.laws.untrusted_sets_release_nothing.Goals as goal

pub returns-clause-moves : goal.returns-clause-moves
returns-clause-moves c set s ms un h b = plays_quiet set (set_untrusted set un) ms s h b

pub returns-clause-sessions : goal.returns-clause-sessions
returns-clause-sessions c set v w ms un m valid small bv bw bs e = untrusted_alike set (set_untrusted set un) m valid small v w ms bv bw bs e
