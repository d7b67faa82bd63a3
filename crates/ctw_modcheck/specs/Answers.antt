-- What the checks answer.
use Rattle.std.specs.Prelude.{◌≡◌, ℕ, List, slice_get, Option, Some, None, Result, Ok, Err}
use Rattle.ctw_modcheck.specs.declared.fault.Invalid.{Invalid}
use Rattle.ctw_modcheck.specs.Faults.{of_some}

-- the fault, or Ok where there is none
abbrev pub Answers : Result (Unit {0}) Invalid → Option Invalid → Type 0
Answers (Ok u) fault = fault ≡ None
Answers (Err e) fault = fault ≡ Some e

-- the fault of the item at an index
abbrev pub fault_at : {A : Type 0} → (ℕ → A → Option Invalid) → List A → ℕ → Option Invalid
fault_at fault items index = of_some (fault index) (slice_get items index)
