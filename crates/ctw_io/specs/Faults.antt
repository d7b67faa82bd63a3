-- How a count of faults bears on the answer of a call.
use Rattle.std.specs.Prelude.{◌≡◌, ◌≤◌, ◌+◌, ℕ, min, Result, Ok, Err, IsErrOf}
use Rattle.ctw_io.specs.declared.Fault.{Fault}
use Rattle.ctw_io.specs.declared.Fault.TheVariants.{Failed, NoMemory}

-- the greatest count that a u64 holds, where a count stands still
unfoldable pub last_count : ℕ
last_count = 18446744073709551615

-- the count rose, or stands at its type's end
abbrev pub Rose : ℕ → ℕ → Type 0
Rose before after = min (before + 1) last_count ≤ after

-- the count never falls, `Failed` comes only where it rose, and want of memory leaves it
pub record HasCause {T : Type 0} (before after : ℕ) (result : Result T Fault) : Type 0 where
  pub kept : before ≤ after
  pub failed : IsErrOf result Failed → Rose before after
  pub memory : IsErrOf result NoMemory → after ≡ before

-- how a count goes on: by one, and not past its type's end
abbrev pub next_count : ℕ → ℕ
next_count count = min (count + 1) last_count

-- the count of faults after a call with this answer
abbrev pub faults_after : {T : Type 0} → ℕ → Result T Fault → ℕ
faults_after before (Ok value) = before
faults_after before (Err Failed) = next_count before
faults_after before (Err NoMemory) = before
