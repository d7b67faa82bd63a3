-- What else holds of every module that bytes spell, besides that it is formed: the limits of the binary format
-- (W3C WebAssembly Core 1.0, sections 5.2 to 5.5) and of implementations (section 7.2), and where customs stand.
use Rattle.std.specs.Prelude.{◌≡◌, ◌<◌, ◌≤◌, ◌^◌, ◌⊎◌, ℕ, true, false, List, [], ◌∷◌, ◌++◌, length, get_or, IfSome}
use Rattle.std.specs.List.{All, sum_by}
use Rattle.std.specs.List.Sorted.{IsNonDecreasingBy}
use Rattle.std.specs.Str.{is_utf8}
use Rattle.ctw_ops.specs.declared.types.Label.{Label}
use Rattle.ctw_ops.specs.declared.types.Limits.{Limits}
use Rattle.ctw_ops.specs.declared.numeric.Profile.TheVariants.{Divide}
use Rattle.ctw_ops.specs.Types.{FitsWidth}
use Rattle.ctw_ops.specs.Numeric.{is_numeric}
use Rattle.ctw_ops.specs.Forms.{is_load, is_store}
use Rattle.ctw_ops.specs.Typing.{optional}
use Rattle.ctw_ops.specs.Limits.{most_params, most_locals, most_locals_of_all, most_nesting, most_plain_bytes}
use Rattle.ctw_ops.specs.Code.{Leaf, Br, BrIf, BrTable, Call, CallIndirect, LocalGet, LocalSet, LocalTee, GlobalGet, GlobalSet, Load, Store, Const, Numeric, Op, Plain, opcodes}
use Rattle.ctw_ops.specs.Tree.{Module, TypeEntry, Extern, ImportedFunction, ImportedTable, ImportedMemory, ImportedGlobal, Import, Function, Constant, Number, ValueOf, Export, Element, Segment, Custom}
use Rattle.ctw_flat.specs.Spelled.{height}
use Rattle.ctw_write.specs.Canon.{vector_text, sized_text, type_entry_text, import_text, table_text, memory_text, global_text, export_text, element_text, code_text, segment_text, canon}
use Rattle.ctw_leb.specs.Spelling.{u32_text}

-- an index, a size or a count has 32 bits (section 5.2.2)
abbrev pub Is32 : ℕ → Type 0
Is32 n = n < 2 ^ 32

-- ---- code

-- a leaf that has an opcode, and whose numbers have 32 bits, or those of their width
abbrev pub IsLimitedLeaf : Leaf Label → Type 0
IsLimitedLeaf (Br depth) = Is32 depth
IsLimitedLeaf (BrIf depth) = Is32 depth
IsLimitedLeaf (BrTable targets otherwise) = All Is32 targets × Is32 otherwise
IsLimitedLeaf (Call index) = Is32 index
IsLimitedLeaf (CallIndirect index) = Is32 index
IsLimitedLeaf (LocalGet index) = Is32 index
IsLimitedLeaf (LocalSet index) = Is32 index
IsLimitedLeaf (LocalTee index) = Is32 index
IsLimitedLeaf (GlobalGet index) = Is32 index
IsLimitedLeaf (GlobalSet index) = Is32 index
IsLimitedLeaf (Load w l bytes signed align offset) = (is_load w bytes signed ≡ true) × Is32 align × Is32 offset
IsLimitedLeaf (Store w l bytes align offset) = (is_store w bytes ≡ true) × Is32 align × Is32 offset
IsLimitedLeaf (Const w l bits) = FitsWidth w bits
IsLimitedLeaf (Numeric op l) = is_numeric op ≡ true
IsLimitedLeaf _ = Unit {0}

abbrev pub IsLimitedOp : Op Label → Type 0
IsLimitedOp (Plain leaf) = IsLimitedLeaf leaf
IsLimitedOp _ = Unit {0}

pub record IsLimitedFunction (f : Function Label) : Type 0 where
  pub type : Is32 f.type
  pub locals : length f.locals ≤ most_locals
  pub ops : All IsLimitedOp (opcodes f.body)
  pub nesting : height f.body ≤ most_nesting

-- ---- items

abbrev pub IsLimitedEntry : TypeEntry Label → Type 0
IsLimitedEntry entry = IfSome entry.base Is32 × (length entry.type.params ≤ most_params)

abbrev pub AreSizes : Limits → Type 0
AreSizes limits = Is32 limits.min × IfSome limits.max Is32

-- a name is text (section 5.2.4)
abbrev pub IsText : List ℕ → Type 0
IsText name = is_utf8 name ≡ true

abbrev pub IsLimitedExtern : Extern Label → Type 0
IsLimitedExtern (ImportedFunction type) = Is32 type
IsLimitedExtern (ImportedTable limits) = AreSizes limits
IsLimitedExtern (ImportedMemory type) = AreSizes type.limits
IsLimitedExtern (ImportedGlobal type) = Unit {0}

abbrev pub IsLimitedImport : Import Label → Type 0
IsLimitedImport i = IsText i.module_name × IsText i.name × IsLimitedExtern i.kind

abbrev pub IsLimitedExport : Export → Type 0
IsLimitedExport e = IsText e.name × Is32 e.index

-- a constant number fits its width already where the module is formed
abbrev pub IsLimitedConstant : Constant Label → Type 0
IsLimitedConstant (Number type bits) = Unit {0}
IsLimitedConstant (ValueOf global) = Is32 global

abbrev pub IsLimitedElement : Element Label → Type 0
IsLimitedElement e = Is32 e.table × IsLimitedConstant e.offset × All Is32 e.functions

abbrev pub IsLimitedSegment : Segment Label → Type 0
IsLimitedSegment s = Is32 s.memory × IsLimitedConstant s.offset

-- ---- sections

-- what stands in each section of items: their count and their texts
abbrev pub contents : Module Label → List (List ℕ)
contents m =
    vector_text type_entry_text m.types ∷ vector_text import_text m.imports
    ∷ vector_text (λ f. u32_text f.type) m.functions ∷ vector_text table_text (optional m.table)
    ∷ vector_text memory_text (optional m.memory) ∷ vector_text global_text m.globals
    ∷ vector_text export_text m.exports ∷ vector_text element_text m.elements ∷ vector_text code_text m.functions
    ∷ vector_text segment_text m.segments ∷ []

-- its size has 32 bits (section 5.5.2)
abbrev pub IsShort : List ℕ → Type 0
IsShort text = Is32 (length text)

-- how many items the section of each id has, from 0 on; custom sections (0) are not counted
abbrev pub item_counts : Module Label → List ℕ
item_counts m =
    0 ∷ length m.types ∷ length m.imports ∷ length m.functions ∷ length (optional m.table) ∷ length (optional m.memory)
    ∷ length m.globals ∷ length m.exports ∷ length (optional m.start) ∷ length m.elements ∷ length m.functions
    ∷ length m.segments ∷ []

-- the beginning of a file, or behind a section that has items
abbrev pub IsPlace : Module Label → ℕ → Type 0
IsPlace m place = (place ≡ 0) ⊎ (0 < get_or (item_counts m) place 0)

pub record IsLimitedCustom (m : Module Label) (c : Custom) : Type 0 where
  pub place : IsPlace m c.place
  pub name : IsText c.name
  pub size : IsShort (sized_text c.name ++ c.bytes)

-- ---- modules

-- A profile is not spelled: bytes spell modules with the profile Divide. The counts and sizes inside a section have
-- 32 bits where its own size has.
pub record KeepsLimits (m : Module Label) : Type 0 where
  pub profile : m.profile ≡ Divide
  pub types : All IsLimitedEntry m.types
  pub imports : All IsLimitedImport m.imports
  pub functions : All IsLimitedFunction m.functions
  pub locals : sum_by (λ f. length f.locals) m.functions ≤ most_locals_of_all
  pub table : IfSome m.table AreSizes
  pub memory : IfSome m.memory (λ type. AreSizes type.limits)
  pub globals : All (λ g. IsLimitedConstant g.init) m.globals
  pub exports : All IsLimitedExport m.exports
  pub start : IfSome m.start Is32
  pub elements : All IsLimitedElement m.elements
  pub segments : All IsLimitedSegment m.segments
  pub sections : All IsShort (contents m)
  pub customs : All (IsLimitedCustom m) m.customs
  pub rising : IsNonDecreasingBy (λ c. c.place) m.customs
  pub plain_bytes : m.ct ≡ false → length (canon m) ≤ most_plain_bytes
