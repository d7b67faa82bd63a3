-- How the launch of a set ends, in other words than `launched`: which segment is the first outside, and what the
-- start functions did, one part after another (W3C WebAssembly Core 1.0, section 4.5.4).
use Rattle.std.specs.Prelude.{◌≡◌, ◌≤◌, ◌<◌, ◌⊎◌, ℕ, ◌+◌, List, [], ◌∷◌, ◌++◌, length, All, Option, Some, None, slice_get}
use Rattle.ctw_ops.specs.declared.types.Label.{Label}
use Rattle.ctw_ops.specs.Tree.{Element, Segment}
use Rattle.ctw_semantics.specs.Values.{Value}
use Rattle.ctw_semantics.specs.Stores.{Storage}
use Rattle.ctw_semantics.specs.Instances.{FunctionInstance, Functions}
use Rattle.ctw_semantics.specs.Machine.{begun}
use Rattle.ctw_semantics.specs.Steps.{Left, Finished, turn}
use Rattle.ctw_link.specs.Numbers.{LinkedModule}
use Rattle.ctw_launch.specs.Launched.{offset_of, table_size, memory_size, table_of, memory_of, Space, OfElements, OfData}

-- ---- segments

-- the first element of a list that lacks a property
pub record IsFirstWithout {A : Type 0} (P : A → Type 0) (xs : List A) (index : ℕ) : Type 0 where
  pub element : A
  pub there : slice_get xs index ≡ Some element
  pub lacks : P element → ⊥
  pub earlier : (i : ℕ) (x : A) → i < index → slice_get xs i ≡ Some x → P x

-- entries end at the end of the part's table at the latest, and bytes at that of its memory
abbrev pub ElementInside : Storage → LinkedModule → Element Label → Type 0
ElementInside s p e = offset_of s p e.offset + length e.functions ≤ table_size (table_of s p)

abbrev pub DataInside : Storage → LinkedModule → Segment Label → Type 0
DataInside s p d = offset_of s p d.offset + length d.bytes ≤ memory_size (memory_of s p)

-- all segments of a part are inside
abbrev pub IsInside : Storage → LinkedModule → Type 0
IsInside s p = All (ElementInside s p) p.tree.elements × All (DataInside s p) p.tree.segments

-- a part's first segment that isn't; elements come before data
abbrev pub IsOutside : Storage → LinkedModule → Space → ℕ → Type 0
IsOutside s p OfElements index = IsFirstWithout (ElementInside s p) p.tree.elements index
IsOutside s p OfData index =
    All (ElementInside s p) p.tree.elements × IsFirstWithout (DataInside s p) p.tree.segments index

-- the first part with a segment outside has this name, and this segment is its first
pub record FirstOutside (s : Storage) (parts : List LinkedModule) (name : List ℕ) (space : Space) (index : ℕ)
    : Type 0 where
  pub before : List LinkedModule
  pub part : LinkedModule
  pub behind : List LinkedModule
  pub split : parts ≡ before ++ part ∷ behind
  pub inside : All (IsInside s) before
  pub named : part.name ≡ name
  pub outside : IsOutside s part space index

-- ---- start functions

module _ (most : ℕ) (fns : Functions) where
  -- the start function of a part, as a number of the store and an instance
  pub record StartsWith (p : LinkedModule) (n : ℕ) (fn : FunctionInstance) : Type 0 where
    pub index : ℕ
    pub declared : p.tree.start ≡ Some index
    pub number : slice_get p.numbers.functions index ≡ Some n
    pub instance : slice_get fns n ≡ Some fn

  -- the start function of a part, called over one store, ends within its steps and leaves another
  pub record StartEnds (p : LinkedModule) (s t : Storage) : Type 0 where
    pub number : ℕ
    pub function : FunctionInstance
    pub starts : StartsWith p number function
    pub value : Option Value
    pub left : (turn most fns s (begun number function [])).left ≡ Finished value
    pub storage : (turn most fns s (begun number function [])).storage ≡ t

  -- a part without a start function changes nothing
  abbrev pub PartStarts : LinkedModule → Storage → Storage → Type 0
  PartStarts p s t = ((p.tree.start ≡ None) × (s ≡ t)) ⊎ StartEnds p s t

  -- the parts' start functions, one after another, lead from one store to another
  abbrev pub AllStart : List LinkedModule → Storage → Storage → Type 0
  AllStart [] s t = s ≡ t
  AllStart (p ∷ parts) s t = (u : Storage) × PartStarts p s u × AllStart parts u t

  -- those of the parts before one of this name end, and its own leaves this
  pub record StartLeaves (parts : List LinkedModule) (s : Storage) (name : List ℕ) (left : Left) : Type 0 where
    pub before : List LinkedModule
    pub part : LinkedModule
    pub behind : List LinkedModule
    pub split : parts ≡ before ++ part ∷ behind
    pub reached : Storage
    pub ended : AllStart before s reached
    pub named : part.name ≡ name
    pub number : ℕ
    pub function : FunctionInstance
    pub starts : StartsWith part number function
    pub leaves : (turn most fns reached (begun number function [])).left ≡ left
