-- What a valid module keeps besides so that its printed text is read back: indexes and sizes of 32 bits, names that are
-- text, bytes that are bytes (W3C WebAssembly Core 1.0, sections 5.2.2 and 5.2.4), the limits of implementations
-- (section 7.2), and custom sections in the order of their places.
use Rattle.std.specs.Prelude.{◌≡◌, ◌<◌, ◌≤◌, ◌^◌, ◌⊎◌, ℕ, suc, max, true, List, [], ◌∷◌, length, get_or, IfSome}
use Rattle.std.specs.List.{All, sum_by}
use Rattle.std.specs.List.Sorted.{IsNonDecreasingBy}
use Rattle.std.specs.Str.{is_utf8}
use Rattle.ctw_ops.specs.declared.types.Label.{Label}
use Rattle.ctw_ops.specs.declared.types.Limits.{Limits}
use Rattle.ctw_ops.specs.Typing.{optional}
use Rattle.ctw_ops.specs.Limits.{most_params, most_locals, most_locals_of_all, most_nesting}
use Rattle.ctw_ops.specs.WithinLimits.{IsOctet}
use Rattle.ctw_ops.specs.Code.{Leaf, Br, BrIf, BrTable, Call, CallIndirect, LocalGet, LocalSet, LocalTee, GlobalGet, GlobalSet, Load, Store, Code, Stop, Then, Block, Loop, If, IfElse, Op, Plain, opcodes}
use Rattle.ctw_ops.specs.Tree.{Module, TypeEntry, Extern, ImportedFunction, ImportedTable, ImportedMemory, ImportedGlobal, Import, Function, Constant, Number, ValueOf, Export, Element, Segment, Custom}

-- an index or a size
abbrev pub Is32 : ℕ → Type 0
Is32 n = n < 2 ^ 32

-- ---- code

abbrev pub IsLimitedLeaf : Leaf Label → Type 0
IsLimitedLeaf (Br depth) = Is32 depth
IsLimitedLeaf (BrIf depth) = Is32 depth
IsLimitedLeaf (BrTable targets otherwise) = All Is32 targets × Is32 otherwise
IsLimitedLeaf (Call index) = Is32 index
IsLimitedLeaf (CallIndirect index) = Is32 index
IsLimitedLeaf (LocalGet index) = Is32 index
IsLimitedLeaf (LocalSet index) = Is32 index
IsLimitedLeaf (LocalTee index) = Is32 index
IsLimitedLeaf (GlobalGet index) = Is32 index
IsLimitedLeaf (GlobalSet index) = Is32 index
IsLimitedLeaf (Load w l bytes signed align offset) = Is32 offset
IsLimitedLeaf (Store w l bytes align offset) = Is32 offset
IsLimitedLeaf _ = Unit {0}

abbrev pub IsLimitedOp : Op Label → Type 0
IsLimitedOp (Plain leaf) = IsLimitedLeaf leaf
IsLimitedOp _ = Unit {0}

-- how many blocks are open at most at one place
abbrev pub height : {S : Type 0} → Code S → ℕ
height Stop = 0
height (Then leaf rest) = height rest
height (Block t body rest) = max (suc (height body)) (height rest)
height (Loop t body rest) = max (suc (height body)) (height rest)
height (If t arm rest) = max (suc (height arm)) (height rest)
height (IfElse t arm other rest) = max (suc (max (height arm) (height other))) (height rest)

pub record IsLimitedFunction (f : Function Label) : Type 0 where
  pub type : Is32 f.type
  pub locals : length f.locals ≤ most_locals
  pub ops : All IsLimitedOp (opcodes f.body)
  pub nesting : height f.body ≤ most_nesting

-- ---- items

abbrev pub IsLimitedEntry : TypeEntry Label → Type 0
IsLimitedEntry entry = IfSome entry.base Is32 × (length entry.type.params ≤ most_params)

abbrev pub AreSizes : Limits → Type 0
AreSizes limits = Is32 limits.min × IfSome limits.max Is32

abbrev pub IsText : List ℕ → Type 0
IsText name = is_utf8 name ≡ true

abbrev pub IsLimitedExtern : Extern Label → Type 0
IsLimitedExtern (ImportedFunction type) = Is32 type
IsLimitedExtern (ImportedTable limits) = AreSizes limits
IsLimitedExtern (ImportedMemory type) = AreSizes type.limits
IsLimitedExtern (ImportedGlobal type) = Unit {0}

abbrev pub IsLimitedImport : Import Label → Type 0
IsLimitedImport i = IsText i.module_name × IsText i.name × IsLimitedExtern i.kind

abbrev pub IsLimitedExport : Export → Type 0
IsLimitedExport e = IsText e.name × Is32 e.index

abbrev pub IsLimitedConstant : Constant Label → Type 0
IsLimitedConstant (Number type bits) = Unit {0}
IsLimitedConstant (ValueOf global) = Is32 global

abbrev pub IsLimitedElement : Element Label → Type 0
IsLimitedElement e = IsLimitedConstant e.offset × All Is32 e.functions

abbrev pub IsLimitedSegment : Segment Label → Type 0
IsLimitedSegment s = IsLimitedConstant s.offset × All IsOctet s.bytes

-- ---- custom sections

-- how many items the section of each id has, from 0 on; custom sections (0) are not counted
abbrev pub item_counts : Module Label → List ℕ
item_counts m =
    0 ∷ length m.types ∷ length m.imports ∷ length m.functions ∷ length (optional m.table) ∷ length (optional m.memory)
    ∷ length m.globals ∷ length m.exports ∷ length (optional m.start) ∷ length m.elements ∷ length m.functions
    ∷ length m.segments ∷ []

-- the beginning of a file, or behind a section that has items
abbrev pub IsPlace : Module Label → ℕ → Type 0
IsPlace m place = (place ≡ 0) ⊎ (0 < get_or (item_counts m) place 0)

pub record IsLimitedCustom (m : Module Label) (c : Custom) : Type 0 where
  pub place : IsPlace m c.place
  pub name : IsText c.name
  pub bytes : All IsOctet c.bytes

-- ---- modules

pub record IsLimited (m : Module Label) : Type 0 where
  pub types : All IsLimitedEntry m.types
  pub imports : All IsLimitedImport m.imports
  pub functions : All IsLimitedFunction m.functions
  pub locals : sum_by (λ f. length f.locals) m.functions ≤ most_locals_of_all
  pub table : IfSome m.table AreSizes
  pub memory : IfSome m.memory (λ type. AreSizes type.limits)
  pub globals : All (λ g. IsLimitedConstant g.init) m.globals
  pub exports : All IsLimitedExport m.exports
  pub start : IfSome m.start Is32
  pub elements : All IsLimitedElement m.elements
  pub segments : All IsLimitedSegment m.segments
  pub customs : All (IsLimitedCustom m) m.customs
  pub rising : IsNonDecreasingBy (λ c. c.place) m.customs
