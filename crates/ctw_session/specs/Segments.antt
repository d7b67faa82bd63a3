-- The segments of linked parts, and the store that they are written into.
use Rattle.std.specs.Prelude.{◌≡◌, ℕ, List, map, length, Some, None, slice_get}
use Rattle.ctw_ops.specs.declared.types.Label.{Label}
use Rattle.ctw_ops.specs.Tree.{Element, Segment}
use Rattle.ctw_semantics.specs.Stores.{Storage}
use Rattle.ctw_link.specs.declared.set.Part.{Part}
use Rattle.ctw_link.specs.Sets.{set_of}
use Rattle.ctw_link.specs.Numbers.{LinkedModule, linked}
use Rattle.ctw_launch.specs.Launched.{allocated, outside}

-- the part of an index, with its numbers
abbrev pub IsLinkedPart : List Part → ℕ → LinkedModule → Type 0
IsLinkedPart parts part p = slice_get (linked (set_of parts)) part ≡ Some p

-- the element of an index of a part, and the data segment
abbrev pub IsElementOf : LinkedModule → ℕ → Element Label → Type 0
IsElementOf p index e = slice_get p.tree.elements index ≡ Some e

abbrev pub IsSegmentOf : LinkedModule → ℕ → Segment Label → Type 0
IsSegmentOf p index d = slice_get p.tree.segments index ≡ Some d

-- a part has an element of an index, or a data segment
abbrev pub HasElement : List Part → ℕ → ℕ → Type 0
HasElement parts part index =
    (p : LinkedModule) × IsLinkedPart parts part p × (e : Element Label) × IsElementOf p index e

abbrev pub HasSegment : List Part → ℕ → ℕ → Type 0
HasSegment parts part index =
    (p : LinkedModule) × IsLinkedPart parts part p × (d : Segment Label) × IsSegmentOf p index d

-- the store of the parts as it is allocated
abbrev pub IsAllocated : List Part → Storage → Type 0
IsAllocated parts s = s ≡ allocated (linked (set_of parts))

-- no segment of the parts is outside in a store
abbrev pub AreInside : List Part → Storage → Type 0
AreInside parts s = outside s (linked (set_of parts)) ≡ None

-- The store of the parts while segments are written, of which none is outside: its globals are those with which it was
-- allocated, and its tables and memories are as large.
pub record IsLoading (parts : List Part) (s : Storage) : Type 0 where
  pub inside : AreInside parts (allocated (linked (set_of parts)))
  pub globals : s.globals ≡ (allocated (linked (set_of parts))).globals
  pub tables : map (λ t. length t.entries) s.tables
      ≡ map (λ t. length t.entries) (allocated (linked (set_of parts))).tables
  pub memories : map (λ m. length m.bytes) s.memories
      ≡ map (λ m. length m.bytes) (allocated (linked (set_of parts))).memories
