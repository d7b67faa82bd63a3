-- What a step of a command answers: it goes on, or stops with what is said.
use Rattle.std.specs.Prelude.{◌≡◌, ◌≢◌, ◌≤◌, ℕ, List, Result, Ok, Err}
use Rattle.ctw_io.specs.Faults.{Rose}
use Rattle.ctw_script.specs.declared.moves.Move.{Move}
use Rattle.ctw_script.specs.declared.script.ScriptFault.{ScriptFault}
use Rattle.ctw_script.specs.declared.script.ScriptFault.TheVariants as faults
use Rattle.ctw_script.specs.Scripts.{HasReading, HasFault}
use Rattle.ctw_inputs.specs.Saying.{Saying}
use Rattle.ctw_inputs.specs.declared.said.Status.TheVariants.{Refused}
use Rattle.ctw_inputs.specs.declared.said.Stop.{Stop}
use Rattle.ctw_inputs.specs.declared.said.Stop.TheVariants as stop
use Rattle.ctw_inputs.specs.Outcome.{Outcome, ends}

-- this is all that the outcome is
abbrev pub SaysAll : Saying → Outcome → Type 0
SaysAll said o = o ≡ ends said.status said.text

-- the command stops with this outcome; a fault of reading and want of memory tell nothing of it
abbrev pub IsStop : Stop → Outcome → Type 0
IsStop (stop.Says said) o = SaysAll said o
IsStop stop.ReadFault o = Unit {0}
IsStop stop.NoMemory o = Unit {0}

-- the command stops with a refusal, or for want of memory
abbrev pub IsRefusal : Stop → Type 0
IsRefusal (stop.Says said) = said.status ≡ Refused
IsRefusal stop.ReadFault = ⊥
IsRefusal stop.NoMemory = Unit {0}

-- all that a command says, or it stops
abbrev pub SaysSo : Result Saying Stop → Outcome → Type 0
SaysSo (Ok said) o = SaysAll said o
SaysSo (Err why) o = IsStop why o

-- a step goes on with a value, which is seen as the step's, or stops
abbrev pub Settles : {T S : Type 0} → (T → S) → Result T Stop → ((S → Outcome) → Outcome) → Type 0
Settles seen (Ok x) step = (go : _ → Outcome) → step go ≡ go (seen x)
Settles seen (Err why) step = (go : _ → Outcome) → IsStop why (step go)

-- the count of a shelf's faults never falls, and a fault of reading comes only where it rose
pub record HasReadCause {T : Type 0} (before after : ℕ) (result : Result T Stop) : Type 0 where
  pub kept : before ≤ after
  pub failed : result ≡ Err stop.ReadFault → Rose before after

-- ---- scripts

-- the moves that a script stands for, or its first fault
abbrev pub Reads : List ℕ → Result (List Move) ScriptFault → Type 0
Reads text (Ok moves) = HasReading text moves
Reads text (Err fault) = HasFault text fault × (fault ≢ faults.NoMemory)

-- a script stands for the moves that are read of it, and has a fault where it is refused
abbrev pub FollowsReading : List ℕ → Result (List Move) Stop → Type 0
FollowsReading text (Ok moves) = Reads text (Ok moves)
FollowsReading text (Err (stop.Says said)) = (fault : ScriptFault) × Reads text (Err fault)
FollowsReading text (Err stop.ReadFault) = ⊥
FollowsReading text (Err stop.NoMemory) = Unit {0}
