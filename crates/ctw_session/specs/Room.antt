-- Memories that moves name.
use Rattle.std.specs.Prelude.{◌≡◌, ◌≤◌, ◌<◌, ℕ, ◌^◌, List, length, All, Some, slice_get, Result, Ok, Err}
use Rattle.ctw_script.specs.declared.reply.Refusal.{Refusal}
use Rattle.ctw_semantics.specs.Stores.{Memory, Storage}
use Rattle.ctw_semantics.specs.Sound.{Shape, SoundStorage}
use Rattle.ctw_link.specs.declared.set.Part.{Part}
use Rattle.ctw_link.specs.Sets.{ModuleSet, set_of}
use Rattle.ctw_link.specs.SetInstances.{IsShapeOf}
use Rattle.ctw_moves.specs.States.{State, Played, refused}
use Rattle.ctw_moves.specs.Moves.{at_memory}
use Rattle.ctw_session.specs.declared.exports.ExportedMemory.{ExportedMemory}

-- a sound store of the parts
pub record IsStoreOf (parts : List Part) (s : Storage) : Type 0 where
  pub shape : Shape
  pub declared : IsShapeOf (set_of parts) shape
  pub storage : SoundStorage shape s

-- the memory of this number and this label reaches so far
pub record HasRoom (s : Storage) (found : ExportedMemory) (end : ℕ) (m : Memory) : Type 0 where
  pub there : slice_get s.memories found.number ≡ Some m
  pub label : m.type.tag ≡ found.label
  pub room : end ≤ length m.bytes
  pub bytes : All (λ byte. byte < 256) m.bytes
  pub small : length m.bytes < 2 ^ 32

-- a move of bytes goes on with this memory, or is refused
abbrev pub Places : ModuleSet → State → List ℕ → List ℕ → ℕ → ℕ → Result ExportedMemory Refusal → Type 0
Places set s part memory at count (Ok found) =
    (m : Memory) → slice_get s.storage.memories found.number ≡ Some m
    → (go : ℕ → Memory → Played) → at_memory set s part memory at count go ≡ go found.number m
Places set s part memory at count (Err r) =
    (go : ℕ → Memory → Played) → at_memory set s part memory at count go ≡ refused r s
