use Rattle.std.proofs.Common.{ap}
use Rattle.ctw_launch.specs.Launched.{Started, loaded}
use Rattle.ctw_moves.specs.LaunchedStates.{first_state, with_vault}
use Rattle.ctw_workloads.specs.Placed.{placed_set}
use Rattle.ctw_workloads.proofs.Launch.{set_matches, set_stands}
use Rattle.ctw_workloads.proofs.laws.placed_workloads_are_launched.Goals as goal

pub returns-clause-matching : goal.returns-clause-matching
returns-clause-matching c q seed size p l = set_matches q seed size p l

pub returns-clause-launched : goal.returns-clause-launched
returns-clause-launched c q seed size p l vault = (first_state (loaded (placed_set q seed size p l)) vault, ap (λ (s : Started). with_vault s vault) (set_stands q seed size p l))
