-- Sound states of a session.
use Rattle.std.specs.Prelude.{◌≡◌, ◌<◌, ℕ, List, length, Option, Some, None, All}
use Rattle.ctw_ops.specs.declared.types.Label.{Label}
use Rattle.ctw_ops.specs.Types.{ValueType}
use Rattle.ctw_script.specs.declared.moves.Move.{Move}
use Rattle.ctw_script.specs.declared.moves.Move.TheVariants.{Poke}
use Rattle.ctw_semantics.specs.Instances.{Functions}
use Rattle.ctw_semantics.specs.Activations.{Activation}
use Rattle.ctw_semantics.specs.Sound.{Shape, SoundStorage, SoundCall}
use Rattle.ctw_link.specs.Sets.{ModuleSet}
use Rattle.ctw_link.specs.Matching.{AreMatching}
use Rattle.ctw_link.specs.SetInstances.{set_instances, IsShapeOf, AllValid}
use Rattle.ctw_link.specs.Sets.{AllWithinLimits}
use Rattle.ctw_moves.specs.States.{State}

-- a slot is free, or its call is sound and will give some result
abbrev pub SoundSlot : Functions → Shape → Option Activation → Type 0
SoundSlot fns shape None = Unit {0}
SoundSlot fns shape (Some a) = (last : Option (ValueType Label)) × SoundCall fns shape last a

-- bytes are numbers below 256
abbrev pub AreBytes : List ℕ → Type 0
AreBytes bytes = All (λ byte. byte < 256) bytes

-- what a poke writes are bytes
abbrev pub HasBytes : Move → Type 0
HasBytes (Poke part memory at bytes) = AreBytes bytes
HasBytes m = Unit {0}

-- a matching set of valid modules within limits, a sound store that is the set's, 64 slots with sound calls, and a
-- vault of bytes
pub record SoundState (set : ModuleSet) (s : State) : Type 0 where
  pub matching : AreMatching set
  pub valid : AllValid set
  pub limits : AllWithinLimits set
  pub shape : Shape
  pub declared : IsShapeOf set shape
  pub storage : SoundStorage shape s.storage
  pub slots : All (SoundSlot (set_instances set) shape) s.slots
  pub count : length s.slots ≡ 64
  pub vault : AreBytes s.vault
