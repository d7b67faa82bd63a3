-- What a command gives.
use Rattle.std.specs.Prelude.{ℕ, List, [], Option, None}
use Rattle.ctw_script.specs.declared.moves.Move.{Move}
use Rattle.ctw_link.specs.Sets.{ModuleSet}
use Rattle.ctw_moves.specs.States.{State}
use Rattle.ctw_inputs.specs.declared.said.Status.{Status}

-- the moves that are made of a launched set, and the state before them
pub record Execution : Type 0 where
  pub set : ModuleSet
  pub state : State
  pub moves : List Move

-- the bytes for out, the files that are saved behind them, each with its bytes, the status, and what was executed
pub record Outcome : Type 0 where
  pub out : List ℕ
  pub saves : List (List ℕ × List ℕ)
  pub status : Status
  pub execution : Option Execution

-- nothing is saved and nothing executed
abbrev pub ends : Status → List ℕ → Outcome
ends status out = record { out = out; saves = []; status = status; execution = None }
