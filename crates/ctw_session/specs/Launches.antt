-- How the launch of a session ends.
use Rattle.std.specs.Prelude.{◌≡◌, ℕ, List, [], Some, option_and_then, slice_get, Result, Ok, Err}
use Rattle.ctw_ops.specs.declared.fault.Space.TheVariants as space
use Rattle.ctw_semantics.specs.Stores.{Storage}
use Rattle.ctw_semantics.specs.Sound.{Shape, SoundStorage}
use Rattle.ctw_link.specs.declared.set.Part.{Part}
use Rattle.ctw_link.specs.Sets.{ModuleSet, set_of, AllWithinLimits}
use Rattle.ctw_link.specs.Numbers.{LinkedModule}
use Rattle.ctw_link.specs.Matching.{AreMatching}
use Rattle.ctw_link.specs.SetInstances.{set_instances, IsShapeOf, AllValid}
use Rattle.ctw_launch.specs.Launched as Launched
use Rattle.ctw_launch.specs.Launched.{Started, Stands, Fails, start_number, launched}
use Rattle.ctw_launch.specs.ErasedSets.{erase_set}
use Rattle.ctw_moves.specs.States.{State}
use Rattle.ctw_moves.specs.SeenStates.{Agree}
use Rattle.ctw_moves.specs.ErasedRuns.{erase_state}
use Rattle.ctw_moves.specs.LaunchedStates.{Ready, first_state, launch}
use Rattle.ctw_session.specs.LiveStates.{StandsFor}
use Rattle.ctw_session.specs.declared.live.Live.{Live}
use Rattle.ctw_session.specs.declared.fault.LaunchFault.{LaunchFault}
use Rattle.ctw_session.specs.declared.fault.LaunchFault.TheVariants.{SegmentOutside, StartTrapped, StartUnfinished, NoMemory}

-- a sound store of the parts, of this shape
pub record IsStoreIn (parts : List Part) (shape : Shape) (s : Storage) : Type 0 where
  pub declared : IsShapeOf (set_of parts) shape
  pub storage : SoundStorage shape s

-- the part of this index has this name
abbrev pub IsNamed : List Part → ℕ → List ℕ → Type 0
IsNamed parts index name = (p : Part) × (slice_get parts index ≡ Some p) × (p.name ≡ name)

-- a fault tells why the launch fails, and names the part by its index; want of memory tells nothing
abbrev pub TellsFault : List Part → LaunchFault → Launched.LaunchFault → Type 0
TellsFault parts (SegmentOutside part space.Elements index) (Launched.SegmentOutside name Launched.OfElements i) =
    IsNamed parts part name × (index ≡ i)
TellsFault parts (SegmentOutside part space.Segments index) (Launched.SegmentOutside name Launched.OfData i) =
    IsNamed parts part name × (index ≡ i)
TellsFault parts (StartTrapped part code) (Launched.StartTrapped name c) = IsNamed parts part name × (code ≡ c)
TellsFault parts (StartUnfinished part) (Launched.StartUnfinished name) = IsNamed parts part name
TellsFault parts _ _ = ⊥

-- how the start functions of a set end
abbrev pub Starts : List Part → Shape → Started → Result (Unit {0}) LaunchFault → Storage → Type 0
Starts parts shape x (Ok done) new = (x ≡ Stands new) × IsStoreIn parts shape new
Starts parts shape x (Err NoMemory) new = Unit {0}
Starts parts shape x (Err fault) new = (f : Launched.LaunchFault) × (x ≡ Fails f) × TellsFault parts fault f

-- how the start function of a part ends, where others go on behind it
abbrev pub StartsPart : List Part → Shape → ℕ → ℕ → LinkedModule → Storage → Result (Unit {0}) LaunchFault → Storage
    → Type 0
StartsPart parts shape part steps p old (Ok done) new =
    IsStoreIn parts shape new
    × ((go : Storage → Started) → start_number steps (set_instances (set_of parts)) p.name old
    (option_and_then (slice_get p.numbers.functions) p.tree.start) go ≡ go new)
StartsPart parts shape part steps p old (Err NoMemory) new = Unit {0}
StartsPart parts shape part steps p old (Err fault) new =
    (f : Launched.LaunchFault) × TellsFault parts fault f
    × ((go : Storage → Started) → start_number steps (set_instances (set_of parts)) p.name old
    (option_and_then (slice_get p.numbers.functions) p.tree.start) go ≡ Fails f)

-- ---- the whole launch

-- a matching set of valid modules within limits
pub record CanBeLaunched (set : ModuleSet) : Type 0 where
  pub matching : AreMatching set
  pub valid : AllValid set
  pub limits : AllWithinLimits set

-- an error is want of memory, or tells a fault of which this holds
abbrev pub Denies : List Part → (Launched.LaunchFault → Type 0) → LaunchFault → Type 0
Denies parts Comes NoMemory = Unit {0}
Denies parts Comes fault = (f : Launched.LaunchFault) × Comes f × TellsFault parts fault f

-- the parts are launched, and the session stands for their first state with this vault
pub record IsLaunched (parts : List Part) (vault : List ℕ) (l : Live) : Type 0 where
  pub set : l.set ≡ parts
  pub storage : Storage
  pub launched : launched (set_of parts) ≡ Stands storage
  pub stands : StandsFor l (first_state storage vault)

-- with another vault the parts are launched too, into a state that agrees
pub record IsLaunchedBeside (parts : List Part) (vault other : List ℕ) (l : Live) : Type 0 where
  pub storage : Storage
  pub stands : StandsFor l (first_state storage vault)
  pub state : State
  pub launch : launch (set_of parts) other ≡ Ready state
  pub agrees : Agree (first_state storage vault) state

-- the erased parts are launched with an empty vault, into the erased state
pub record IsLaunchedErased (parts : List Part) (vault : List ℕ) (l : Live) : Type 0 where
  pub storage : Storage
  pub stands : StandsFor l (first_state storage vault)
  pub launch : launch (erase_set (set_of parts)) [] ≡ Ready (erase_state (set_of parts) (first_state storage vault))
