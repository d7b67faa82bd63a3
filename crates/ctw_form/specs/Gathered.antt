-- What the lists of a file's sections answer when they are gathered.
use Rattle.std.specs.Prelude.{◌≡◌, ℕ, List, ◌++◌, length, Option, Some, None, Result, Ok, Err}
use Rattle.ctw_leb.specs.Input.{Input}
use Rattle.ctw_leb.specs.Calls.{FailsBy, HoldsFrontBy}
use Rattle.ctw_form.specs.declared.fault.FormFault.{FormFault}
use Rattle.ctw_form.specs.declared.lists.ListFault.{ListFault}
use Rattle.ctw_form.specs.declared.lists.ListFault.TheVariants.{Bad, NoMemory}
use Rattle.ctw_form.specs.declared.slots.LocalRun.{LocalRun}
use Rattle.ctw_form.specs.Sections.{Entry}
use Rattle.ctw_form.specs.Spelled.{all_after}
use Rattle.ctw_form.specs.Slots.{Coded, runs_behind}

abbrev pub list_fault : ListFault → Option FormFault
list_fault NoMemory = None
list_fault (Bad fault) = Some fault

-- the fault is the reader's, or memory ran out
abbrev pub FailsAs : {Y : Type 0} → ListFault → Result Y FormFault → Type 0
FailsAs = FailsBy list_fault

-- the reader has no answer, or memory ran out
abbrev pub FailsToo : {Y : Type 0} → ListFault → Result Y FormFault → Type 0
FailsToo NoMemory read = Unit {0}
FailsToo {Y} (Bad fault) read = (y : Y) → read ≡ Ok y → ⊥

-- the answer and the place behind it are the reader's, or the fault is
abbrev pub Gives : {X Y : Type 0} → (X → Y → Type 0) → Result X ListFault → Input → Result (Y × Input) FormFault
    → Type 0
Gives = HoldsFrontBy list_fault

-- the same where the reader has an answer
abbrev pub Follows : {X Y : Type 0} → (X → Y → Type 0) → Result X ListFault → Input → Result (Y × Input) FormFault
    → Type 0
Follows {X} {Y} holds (Ok x) new read = (y : Y) (o : Input) → read ≡ Ok (y, o) → (o ≡ new) × holds x y
Follows holds (Err e) new read = FailsToo e read

-- a code entry's slot, its runs behind those of others, and the locals of all entries with it
pub record IsCode (old_runs new_runs : List LocalRun) (before : ℕ) (slot : Coded) (all : ℕ) (e : Entry) : Type 0 where
  pub code : slot.code ≡ e.code
  pub runs : new_runs ≡ old_runs ++ runs_behind 0 e.groups
  pub end : slot.runs ≡ length new_runs
  pub locals : all ≡ all_after before e
