-- The parts of the code, as a set.
use Rattle.std.proofs.Common.{List}
use Rattle.std.proofs.lemmas.List.Elements.{All-map}
use Rattle.ctw_ops.specs.Valid.{IsValid}
use Rattle.ctw_semantics.specs.Sound.{Shape, SoundSet}
use Rattle.ctw_link.specs.declared.set.Part.{Part}
use Rattle.ctw_link.specs.Sets.{NamedModule, part_in, set_of}
use Rattle.ctw_link.specs.Matching.{AreMatching}
use Rattle.ctw_link.specs.Linked.{CanBeLinked}
use Rattle.ctw_link.specs.SetInstances.{set_instances, IsShapeOf, AllValid}
use Rattle.ctw_launch.proofs.SoundSets.{sound_set}

pub valid_parts : (parts : List Part) → CanBeLinked parts → AllValid (set_of parts)
valid_parts parts can = All-map (λ (p : NamedModule). IsValid p.tree) part_in parts can.valid

pub sound_parts : (parts : List Part) (shape : Shape) → CanBeLinked parts → AreMatching (set_of parts) → IsShapeOf (set_of parts) shape → SoundSet (set_instances (set_of parts)) shape
sound_parts parts shape can m s = sound_set (set_of parts) shape m (valid_parts parts can) s
