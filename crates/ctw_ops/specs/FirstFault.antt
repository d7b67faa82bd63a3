-- What a call answers that looks for the first fault.
use Rattle.std.specs.Prelude.{◌≡◌, ◌⊎◌, Option, Some, None, Result, Ok, Err}

-- Ok where there is no fault, else the fault; one fault says that memory is wanting, and comes for that alone
abbrev pub FindsFault : {A E : Type 0} → E → Result A E → Option E → Type 0
FindsFault memory (Ok a) fault = fault ≡ None
FindsFault memory (Err e) fault = (e ≡ memory) ⊎ (fault ≡ Some e)
