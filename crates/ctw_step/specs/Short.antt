-- Steps of short instructions, which show nothing.
use Rattle.std.specs.Prelude.{◌≡◌, ◌≤◌, ◌+◌, ℕ, List, Ok, None}
use Rattle.ctw_flat.specs.declared.instr.Instr.{Instr}
use Rattle.ctw_flat.specs.Instructions.{op_of}
use Rattle.ctw_flat.specs.Places.{instr_in}
use Rattle.ctw_semantics.specs.Stores.{Storage}
use Rattle.ctw_step.specs.declared.running.Stepped.{Stepped}
use Rattle.ctw_step.specs.declared.running.Stepped.TheVariants as Steppeds
use Rattle.ctw_step.specs.Shown.{Shown}
use Rattle.ctw_step.specs.Told.{Does, DoesAlone, Nothing, Runs, RunsAlone, words}
use Rattle.ctw_step.specs.Reducing.{IsCounted}

-- a reduction of this instruction goes on and shows nothing, in the same frames and with one word more at most
pub record Passes (c : Shown) (i : Instr) (next : ℕ) (c' : Shown) : Type 0 where
  pub does : DoesAlone c i next (Ok (Steppeds.Went None)) c'
  pub frames : c'.frames ≡ c.frames
  pub words : words c' ≤ words c + 1

-- so was the instruction at a place taken
pub record Passed (bytes : List ℕ) (c c' : Shown) : Type 0 where
  pub instr : Instr
  pub next : ℕ
  pub reads : instr_in bytes c.at ≡ Ok (op_of instr, next)
  pub counted : IsCounted instr
  pub passes : Passes c instr next c'

-- the instruction at a place can be taken
abbrev pub CanPass : List ℕ → Shown → Type 0
CanPass bytes c = (i : Instr) (next : ℕ) → instr_in bytes c.at ≡ Ok (op_of i, next) → IsCounted i → RunsAlone c i next

-- ---- instructions that may leave a label or show something

-- the instruction at a place can be taken there
abbrev pub CanTake : List ℕ → Shown → Type 0
CanTake bytes c =
    (i : Instr) (next : ℕ) → instr_in bytes c.at ≡ Ok (op_of i, next) → IsCounted i
    → (s : Storage) × Runs Nothing bytes c i next s

-- the instruction at a place was taken, and this was told
pub record Taken (bytes : List ℕ) (c : Shown) (r : Stepped) (c' : Shown) : Type 0 where
  pub instr : Instr
  pub next : ℕ
  pub reads : instr_in bytes c.at ≡ Ok (op_of instr, next)
  pub counted : IsCounted instr
  pub does : (s : Storage) → Does Nothing bytes c instr next s (Ok r) c' s
