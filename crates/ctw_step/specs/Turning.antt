-- Turns over a linked set.
use Rattle.std.specs.Prelude.{◌≡◌, ◌+◌, ℕ, List, ◌++◌, Option, option_map}
use Rattle.ctw_ops.specs.Types.{ValueType}
use Rattle.ctw_ops.specs.declared.types.Label.{Label}
use Rattle.ctw_script.specs.declared.event.Event.{Event}
use Rattle.ctw_semantics.specs.Values.{Value}
use Rattle.ctw_semantics.specs.Stores.{Storage}
use Rattle.ctw_semantics.specs.Activations.{Activation}
use Rattle.ctw_semantics.specs.Steps as Steps
use Rattle.ctw_semantics.specs.Steps.{turn}
use Rattle.ctw_semantics.specs.Sound.{Shape}
use Rattle.ctw_link.specs.declared.set.Part.{Part}
use Rattle.ctw_step.specs.declared.turning.Turned.{Turned}
use Rattle.ctw_step.specs.declared.turning.Turned.TheVariants as Turneds
use Rattle.ctw_step.specs.Shown.{Shown}
use Rattle.ctw_step.specs.SetInstances.{instances}
use Rattle.ctw_step.specs.Stands.{Stands, number_of}
use Rattle.ctw_step.specs.Stepping.{Standing}
use Rattle.ctw_step.specs.Machine.{ShowsPublic}
use Rattle.ctw_link.specs.Linked.{code_in}
use Rattle.ctw_semantics.specs.Seen.{Agree, seen_storage}
use Rattle.ctw_semantics.specs.Erased.{erase_storage, erase_activation, erase_value}

-- A turn that leaves its call running: the call stands for what is left, over the store that is left, after so many
-- steps with these events behind others.
pub record GoesOn (parts : List Part) (shape : Shape) (last : Option (ValueType Label)) (x : Steps.Turned) (steps : ℕ)
    (s' : Storage) (c' : Shown) (before after : List Event) : Type 0 where
  pub left : Activation
  pub running : x.left ≡ Steps.Running left
  pub standing : Standing parts s' c' shape last left
  pub storage : x.storage ≡ s'
  pub steps_taken : x.steps ≡ steps
  pub events : after ≡ before ++ x.events

-- what is told of a turn of so many steps
abbrev pub TurnTells : List Part → Shape → Option (ValueType Label) → ℕ → Steps.Turned → Turned → Storage → Shown
    → List Event → List Event → Type 0
TurnTells parts shape last n x Turneds.More s' c' before after = GoesOn parts shape last x n s' c' before after
TurnTells parts shape last n x (Turneds.Ended steps v) s' c' before after =
    (w : Option Value) × (x.left ≡ Steps.Finished w) × (v ≡ option_map number_of w) × (x.steps ≡ steps)
    × (x.storage ≡ s') × (after ≡ before ++ x.events)
TurnTells parts shape last n x (Turneds.Trapped steps code) s' c' before after =
    (x.left ≡ Steps.Trapped code) × (x.steps ≡ steps) × (x.storage ≡ s') × (after ≡ before ++ x.events)

-- ---- inside a turn

-- a turn behind so many steps with these events and releases
abbrev pub after_steps : ℕ → List Event → List ℕ → Steps.Turned → Steps.Turned
after_steps i events releases x =
    record {
      storage = x.storage;
      left = x.left;
      steps = i + x.steps;
      events = events ++ x.events;
      releases = releases ++ x.releases;
    }

-- after so many steps a call has come from one activation to another
pub record Came (parts : List Part) (shape : Shape) (last : Option (ValueType Label)) (i : ℕ) (s0 : Storage)
    (a0 : Activation) (before : List Event) (s : Storage) (c : Shown) (after : List Event) : Type 0 where
  pub to : Activation
  pub events : List Event
  pub releases : List ℕ
  pub standing : Standing parts s c shape last to
  pub told : after ≡ before ++ events
  pub runs : (k : ℕ)
      → turn (i + k) (instances parts) s0 a0 ≡ after_steps i events releases (turn k (instances parts) s to)

abbrev pub CameFromAll : List Part → ℕ → Storage → Shown → List Event → Storage → Shown → List Event → Type 0
CameFromAll parts i s0 c0 before s c after =
    (shape : Shape) (last : Option (ValueType Label)) (a0 : Activation) → Standing parts s0 c0 shape last a0
    → Came parts shape last i s0 a0 before s c after

-- ---- what follows

-- A turn of an agreeing state looks the same: it leaves agreeing states, ends with the same public number, or traps
-- with the same code, after as many steps with the same events.
abbrev pub TurnSeenAs : List Part → ℕ → Turned → Storage → Shown → List Event → List Event → Steps.Turned → Type 0
TurnSeenAs parts n Turneds.More s c before after x =
    (a : Activation) × (b : Activation) × Stands (code_in parts) c a × (x.left ≡ Steps.Running b)
    × Agree s a x.storage b × (x.steps ≡ n) × (after ≡ before ++ x.events)
TurnSeenAs parts n (Turneds.Ended steps v) s c before after x =
    (w : Option Value) × (x.left ≡ Steps.Finished w) × ShowsPublic v w × (seen_storage s ≡ seen_storage x.storage)
    × (x.steps ≡ steps) × (after ≡ before ++ x.events)
TurnSeenAs parts n (Turneds.Trapped steps code) s c before after x =
    (x.left ≡ Steps.Trapped code) × (seen_storage s ≡ seen_storage x.storage) × (x.steps ≡ steps)
    × (after ≡ before ++ x.events)

-- The turn of the erased state is the same: it leaves the erased store and the erased call, ends with the same number,
-- or traps with the same code, after as many steps with the same events.
abbrev pub TurnErasedAs : List Part → ℕ → Turned → Storage → Shown → List Event → List Event → Steps.Turned → Type 0
TurnErasedAs parts n Turneds.More s c before after x =
    (a : Activation) × Stands (code_in parts) c a × (x.left ≡ Steps.Running (erase_activation (instances parts) a))
    × (x.storage ≡ erase_storage s) × (x.steps ≡ n) × (after ≡ before ++ x.events)
TurnErasedAs parts n (Turneds.Ended steps v) s c before after x =
    (w : Option Value) × (x.left ≡ Steps.Finished (option_map erase_value w)) × (v ≡ option_map number_of w)
    × (x.storage ≡ erase_storage s) × (x.steps ≡ steps) × (after ≡ before ++ x.events)
TurnErasedAs parts n (Turneds.Trapped steps code) s c before after x =
    (x.left ≡ Steps.Trapped code) × (x.storage ≡ erase_storage s) × (x.steps ≡ steps) × (after ≡ before ++ x.events)
