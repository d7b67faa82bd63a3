-- What one reduction answers, and how it takes its operands.
use Rattle.std.specs.Prelude.{ℕ, Bool, true, false, List, [], ◌∷◌, Option, Some, None}
use Rattle.ctw_ops.specs.declared.types.Label.{Label}
use Rattle.ctw_ops.specs.Types.{ValueType}
use Rattle.ctw_ops.specs.Equal.{same_type}
use Rattle.ctw_script.specs.declared.trap.TrapCode.{TrapCode}
use Rattle.ctw_script.specs.declared.event.Event.{Event}
use Rattle.ctw_semantics.specs.Values.{Value, value}
use Rattle.ctw_semantics.specs.Stores.{Storage}
use Rattle.ctw_semantics.specs.Activations.{Activation}

-- where a reduction leads: to another store and activation, to the end with perhaps a value, or to a trap. Stuck
-- where a value is missing or has another type than the instruction wants, or where an index names nothing.
pub data Answer : Type 0 where
  Goes : (storage : Storage) (activation : Activation) → Answer
  Ended : (value : Option Value) → Answer
  Trapped : (code : TrapCode) → Answer
  Stuck : Answer

-- an answer with its cost of 0 or 1, perhaps what an onlooker sees of it, and perhaps the number that a declassify
-- releases
pub record Reduced : Type 0 where
  pub answer : Answer
  pub cost : ℕ
  pub event : Option Event
  pub release : Option ℕ

-- a counted reduction without an event
abbrev pub quiet : Answer → Reduced
quiet answer = record { answer = answer; cost = 1; event = None; release = None }

-- a counted reduction with an event
abbrev pub noting : Event → Answer → Reduced
noting event answer = record { answer = answer; cost = 1; event = Some event; release = None }

-- a reduction that changes a label: it costs nothing, and a declassify releases its number
abbrev pub relabelling : Option ℕ → Answer → Reduced
relabelling release answer = record { answer = answer; cost = 0; event = None; release = release }

abbrev pub stuck : Reduced
stuck = quiet Stuck

-- ---- what a reduction takes; each is Stuck where it isn't there

-- what an index names
abbrev pub given : {A : Type 0} → Option A → (A → Reduced) → Reduced
given None go = stuck
given (Some x) go = go x

-- a condition that typed code meets
abbrev pub provided : Bool → Reduced → Reduced
provided true r = r
provided false r = stuck

-- the last operand, which has this type
abbrev pub pop : ValueType Label → List Value → (ℕ → List Value → Reduced) → Reduced
pop t [] go = stuck
pop t (v ∷ below) go = provided (same_type t v.type) (go v.number below)

-- the last operand, of any type
abbrev pub pop_any : List Value → (Value → List Value → Reduced) → Reduced
pop_any [] go = stuck
pop_any (v ∷ below) go = go v below

-- operands of these types, the last one's first, put before others
abbrev pub pops : List (ValueType Label) → List Value → List Value → (List Value → List Value → Reduced) → Reduced
pops [] taken operands go = go taken operands
pops (t ∷ ts) taken operands go = pop t operands (λ n below. pops ts (value t n ∷ taken) below go)

-- the value that a branch or an end carries, where it carries one
abbrev pub carry : Option (ValueType Label) → List Value → (Option Value → Reduced) → Reduced
carry None operands go = go None
carry (Some t) operands go = pop t operands (λ n below. go (Some (value t n)))
