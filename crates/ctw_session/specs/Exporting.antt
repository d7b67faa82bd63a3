-- What a part exports under a name.
use Rattle.std.specs.Prelude.{◌≡◌, ◌<◌, ℕ, List, length, None, IsSome, if◌then◌else◌}
use Rattle.ctw_ops.specs.declared.types.ExternTag.{ExternTag}
use Rattle.ctw_ops.specs.Tree.{memory_among}
use Rattle.ctw_ops.specs.Valid.{IsExported}
use Rattle.ctw_module.specs.Trees.{tree, view_module}
use Rattle.ctw_link.specs.declared.set.Part.{Part}
use Rattle.ctw_link.specs.Sets.{set_of}
use Rattle.ctw_link.specs.Numbers.{same_tag, number_in}
use Rattle.ctw_link.specs.Exports.{exported}
use Rattle.ctw_link.specs.Linked.{IsPart}
use Rattle.ctw_session.specs.declared.exports.Export.{Export}

-- the thing of a part that is exported under these names, which has this kind and this index there
pub record IsExport (parts : List Part) (part name : List ℕ) (e : Export) : Type 0 where
  pub there : e.part < length parts
  pub valid : (p : Part) → IsPart parts e.part p → IsExported (view_module p.«module») e.tag e.index
  pub numbers : (tag : ExternTag) → exported tag (set_of parts) part name
      ≡ (if same_tag tag e.tag then number_in (set_of parts) tag e.part e.index else None)

-- the part of an index has a memory, of its own or an imported one
abbrev pub HasMemory : List Part → ℕ → Type 0
HasMemory parts index =
    (p : Part) × IsPart parts index p × IsSome (memory_among (tree p.«module»).imports (tree p.«module»).memory)
