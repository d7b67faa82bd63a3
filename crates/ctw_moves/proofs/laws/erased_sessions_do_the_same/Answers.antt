use Rattle.ctw_moves.proofs.Launches.{launch_erased, session_erased}
use Rattle.ctw_moves.proofs.laws.erased_sessions_do_the_same.Goals as goal

pub returns-clause-launches : goal.returns-clause-launches
returns-clause-launches c set vault m v small = launch_erased set m v small vault

pub returns-clause-sessions : goal.returns-clause-sessions
returns-clause-sessions c set vault s ms m v small b bs e = session_erased set m v small vault s ms b bs e
