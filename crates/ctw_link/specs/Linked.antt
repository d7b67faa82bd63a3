-- What a linked set keeps beside its parts.
use Rattle.std.specs.Prelude.{◌≡◌, ◌≤◌, ◌<◌, ◌^◌, ◌-◌, ℕ, List, [], ◌∷◌, map, flat_map, length, slice_get, All, Option, Some, None}
use Rattle.std.specs.List.{range_with_len}
use Rattle.ctw_ops.specs.declared.types.ExternTag.TheVariants.{Func, Global}
use Rattle.ctw_ops.specs.Tree.{function_entries, global_types}
use Rattle.ctw_ops.specs.Valid.{IsValid}
use Rattle.ctw_flat.specs.declared.blocks.Block.{Block}
use Rattle.ctw_flat.specs.Blocks.{ends_in}
use Rattle.ctw_flat.specs.Positions.{TellsEnds}
use Rattle.ctw_module.specs.Trees.{Lent, tree, view_module, code_of}
use Rattle.ctw_module.specs.Lookup.{imported_count}
use Rattle.ctw_link.specs.declared.set.Part.{Part}
use Rattle.ctw_link.specs.Sets.{set_of, defined, AllWithinLimits}
use Rattle.ctw_link.specs.Numbers.{StoreNumbers, linked, owners}
use Rattle.ctw_link.specs.Matching.{AreMatching}

abbrev pub IsValidPart : Part → Type 0
IsValidPart part = IsValid (view_module part.«module»)

-- one to 64 valid parts, which define fewer than 2^32 functions and fewer than 2^32 globals
pub record CanBeLinked (parts : List Part) : Type 0 where
  pub some : 1 ≤ length parts
  pub few : length parts ≤ 64
  pub valid : All IsValidPart parts
  pub functions : defined Func (set_of parts) < 2 ^ 32
  pub globals : defined Global (set_of parts) < 2 ^ 32

-- the part of an index
abbrev pub IsPart : List Part → ℕ → Part → Type 0
IsPart parts index part = slice_get parts index ≡ Some part

abbrev pub HasFunction : List Part → ℕ → ℕ → Type 0
HasFunction parts index function =
    (p : Part) × IsPart parts index p × (function < length (function_entries (tree p.«module»)))

abbrev pub HasGlobal : List Part → ℕ → ℕ → Type 0
HasGlobal parts index global = (p : Part) × IsPart parts index p × (global < length (global_types (tree p.«module»)))

-- the part of an index defines the function that has this index there, imported ones counted first
pub record Defines (parts : List Part) (index function : ℕ) : Type 0 where
  pub part : Part
  pub is : IsPart parts index part
  pub defined : imported_count (tree part.«module») ≤ function
  pub there : function < length (function_entries (tree part.«module»))

-- the bytes of the body of a function that the module defines
abbrev pub code_at : Lent → ℕ → List ℕ
code_at lent function = code_of lent (function - imported_count (tree lent))

abbrev pub code_of_part : ℕ → Option Part → List ℕ
code_of_part function None = []
code_of_part function (Some p) = code_at p.«module» function

abbrev pub code_of_owner : List Part → Option (ℕ × ℕ) → List ℕ
code_of_owner parts None = []
code_of_owner parts (Some owner) = code_of_part owner.1 (slice_get parts owner.0)

-- the bytes of the body of a function of the store
abbrev pub code_in : List Part → ℕ → List ℕ
code_in parts func = code_of_owner parts (slice_get (owners (set_of parts)) func)

-- the bytes of all bodies of a module
abbrev pub codes_in : Lent → List (List ℕ)
codes_in lent = map (code_of lent) (range_with_len 0 (length (tree lent).functions))

-- the bodies of the functions of the store
abbrev pub codes : List Part → List (List ℕ)
codes parts = flat_map (λ part. codes_in part.«module») parts

-- where the blocks of each body end
abbrev pub TellBlocks : List (List ℕ) → List (List Block) → Type 0
TellBlocks [] [] = Unit {0}
TellBlocks (code ∷ others) (blocks ∷ maps) = TellsEnds code (ends_in blocks) × TellBlocks others maps
TellBlocks _ _ = ⊥

-- the parts match, and what is kept beside them is theirs
pub record AreLinked (parts : List Part) (numbers : List StoreNumbers) (owned : List (ℕ × ℕ))
    (blocks : List (List Block)) : Type 0 where
  pub linkable : CanBeLinked parts
  pub matching : AreMatching (set_of parts)
  pub numbered : numbers ≡ map (λ p. p.numbers) (linked (set_of parts))
  pub owners : owned ≡ owners (set_of parts)
  pub told : TellBlocks (codes parts) blocks
  pub limits : AllWithinLimits (set_of parts)
