-- The canonical spelling of a module: minimal numbers, no empty sections, maximal groups of equal locals, and custom
-- sections straight behind the section of their place (W3C WebAssembly Core 1.0, section 5, where it leaves a choice).
use Rattle.std.specs.Prelude.{ℕ, suc, ◌==◌, Bool, true, false, List, [], ◌∷◌, ◌++◌, length, filter, Option, Some, None, if◌then◌else◌}
use Rattle.std.specs.Int.{w32, w64, cast_signed}
use Rattle.ctw_ops.specs.declared.types.Label.{Label}
use Rattle.ctw_ops.specs.declared.types.Label.TheVariants.{Public, Secret}
use Rattle.ctw_ops.specs.declared.types.Width.{Width}
use Rattle.ctw_ops.specs.declared.types.Width.TheVariants.{W32, W64}
use Rattle.ctw_ops.specs.declared.types.Trust.{Trust}
use Rattle.ctw_ops.specs.declared.types.Trust.TheVariants.{Untrusted, Trusted}
use Rattle.ctw_ops.specs.declared.types.Limits.{Limits}
use Rattle.ctw_ops.specs.declared.types.ExternTag.{ExternTag}
use Rattle.ctw_ops.specs.declared.types.ExternTag.TheVariants as tag
use Rattle.ctw_ops.specs.Types.{ValueType, FunctionType, VariableType, MemoryType, type_byte}
use Rattle.ctw_ops.specs.Equal.{same_type}
use Rattle.ctw_ops.specs.Code.{Leaf, Unreachable, Nop, Br, BrIf, BrTable, Return, Call, CallIndirect, Drop, Select, LocalGet, LocalSet, LocalTee, GlobalGet, GlobalSet, Load, Store, MemorySize, MemoryGrow, Const, Numeric, Classify, Declassify, Code, Shape, OfBlock, OfLoop, OfIf, ByEnd, ByElse, Op, Plain, Opens, Closes, opcodes}
use Rattle.ctw_ops.specs.Tree.{Module, TypeEntry, Extern, ImportedFunction, ImportedTable, ImportedMemory, ImportedGlobal, Import, Function, Constant, Number, ValueOf, Global, Export, Element, Segment, Custom}
use Rattle.ctw_ops.specs.Typing.{optional}
use Rattle.ctw_leb.specs.Spelling.{u32_text, s64_text}
use Rattle.ctw_flat.specs.declared.opcode.Bare.TheVariants as bare
use Rattle.ctw_flat.specs.declared.opcode.Opener.{Opener}
use Rattle.ctw_flat.specs.declared.opcode.Opener.TheVariants as opener
use Rattle.ctw_flat.specs.declared.opcode.Indexed.TheVariants as indexed
use Rattle.ctw_flat.specs.declared.opcode.Form.TheVariants as form
use Rattle.ctw_flat.specs.Opcodes.{opcode_byte, load_form, store_form, prefix_byte}
use Rattle.ctw_form.specs.Sections.{Group}
use Rattle.ctw_form.specs.Spelled.{magic, version}

-- ---- things behind their count or size

abbrev pub all_texts : {A : Type 0} → (A → List ℕ) → List A → List ℕ
all_texts text [] = []
all_texts text (a ∷ others) = text a ++ all_texts text others

abbrev pub vector_text : {A : Type 0} → (A → List ℕ) → List A → List ℕ
vector_text text items = u32_text (length items) ++ all_texts text items

abbrev pub sized_text : List ℕ → List ℕ
sized_text text = u32_text (length text) ++ text

-- ---- types

abbrev pub type_text : ValueType Label → List ℕ
type_text t = type_byte t ∷ []

abbrev pub signature_text : FunctionType Label → List ℕ
signature_text f = vector_text type_text f.params ++ vector_text type_text (optional f.result)

abbrev pub trust_byte : Trust → ℕ
trust_byte Untrusted = 0x00
trust_byte Trusted = 0x01

abbrev pub entry_byte : Trust → ℕ
entry_byte Untrusted = 0x60
entry_byte Trusted = 0x61

abbrev pub type_entry_text : TypeEntry Label → List ℕ
type_entry_text entry = of entry.base
  where
    of : Option ℕ → List ℕ
    of None = entry_byte entry.type.trust ∷ signature_text entry.type
    of (Some base) = 0x62 ∷ (u32_text base ++ trust_byte entry.type.trust ∷ signature_text entry.type)

-- the byte of limits with or without a greatest size, and the sizes
abbrev pub limits_text : ℕ → ℕ → Limits → List ℕ
limits_text alone both limits = of limits.max
  where
    of : Option ℕ → List ℕ
    of None = alone ∷ u32_text limits.min
    of (Some max) = both ∷ (u32_text limits.min ++ u32_text max)

abbrev pub table_text : Limits → List ℕ
table_text limits = 0x70 ∷ limits_text 0x00 0x01 limits

abbrev pub memory_text : MemoryType Label → List ℕ
memory_text t = of t.tag
  where
    of : Label → List ℕ
    of Public = limits_text 0x00 0x01 t.limits
    of Secret = limits_text 0x10 0x11 t.limits

abbrev pub mutable_byte : Bool → ℕ
mutable_byte false = 0x00
mutable_byte true = 0x01

abbrev pub variable_text : VariableType Label → List ℕ
variable_text t = type_byte t.value ∷ mutable_byte t.mutable ∷ []

-- ---- imports and exports

abbrev pub extern_text : Extern Label → List ℕ
extern_text (ImportedFunction type) = 0x00 ∷ u32_text type
extern_text (ImportedTable limits) = 0x01 ∷ table_text limits
extern_text (ImportedMemory type) = 0x02 ∷ memory_text type
extern_text (ImportedGlobal type) = 0x03 ∷ variable_text type

abbrev pub import_text : Import Label → List ℕ
import_text i = sized_text i.module_name ++ sized_text i.name ++ extern_text i.kind

abbrev pub kind_byte : ExternTag → ℕ
kind_byte tag.Func = 0x00
kind_byte tag.Table = 0x01
kind_byte tag.Memory = 0x02
kind_byte tag.Global = 0x03

abbrev pub export_text : Export → List ℕ
export_text e = sized_text e.name ++ kind_byte e.kind ∷ u32_text e.index

-- ---- instructions

-- the secret form of an instruction stands behind a prefix
abbrev pub in_form : Label → List ℕ → List ℕ
in_form Public text = text
in_form Secret text = prefix_byte ∷ text

-- a number by its bits
abbrev pub bits_text : Width → ℕ → List ℕ
bits_text W32 bits = s64_text (cast_signed w32 bits)
bits_text W64 bits = s64_text (cast_signed w64 bits)

abbrev pub leaf_text : Leaf Label → List ℕ
leaf_text Unreachable = opcode_byte (form.Bare bare.Unreachable) ∷ []
leaf_text Nop = opcode_byte (form.Bare bare.Nop) ∷ []
leaf_text (Br depth) = opcode_byte (form.Indexed indexed.Br) ∷ u32_text depth
leaf_text (BrIf depth) = opcode_byte (form.Indexed indexed.BrIf) ∷ u32_text depth
leaf_text (BrTable targets otherwise) =
    opcode_byte form.BrTable ∷ (vector_text u32_text targets ++ u32_text otherwise)
leaf_text Return = opcode_byte (form.Bare bare.Return) ∷ []
leaf_text (Call index) = opcode_byte (form.Indexed indexed.Call) ∷ u32_text index
leaf_text (CallIndirect index) = opcode_byte form.CallIndirect ∷ (u32_text index ++ 0x00 ∷ [])
leaf_text Drop = opcode_byte (form.Bare bare.Drop) ∷ []
leaf_text (Select l) = in_form l (opcode_byte form.Select ∷ [])
leaf_text (LocalGet index) = opcode_byte (form.Indexed indexed.LocalGet) ∷ u32_text index
leaf_text (LocalSet index) = opcode_byte (form.Indexed indexed.LocalSet) ∷ u32_text index
leaf_text (LocalTee index) = opcode_byte (form.Indexed indexed.LocalTee) ∷ u32_text index
leaf_text (GlobalGet index) = opcode_byte (form.Indexed indexed.GlobalGet) ∷ u32_text index
leaf_text (GlobalSet index) = opcode_byte (form.Indexed indexed.GlobalSet) ∷ u32_text index
leaf_text (Load w l bytes signed align offset) =
    in_form l (opcode_byte (load_form w bytes signed) ∷ (u32_text align ++ u32_text offset))
leaf_text (Store w l bytes align offset) =
    in_form l (opcode_byte (store_form w bytes) ∷ (u32_text align ++ u32_text offset))
leaf_text MemorySize = opcode_byte form.MemorySize ∷ 0x00 ∷ []
leaf_text MemoryGrow = opcode_byte form.MemoryGrow ∷ 0x00 ∷ []
leaf_text (Const w l bits) = in_form l (opcode_byte (form.Const w) ∷ bits_text w bits)
leaf_text (Numeric op l) = in_form l (opcode_byte (form.Numeric op) ∷ [])
leaf_text (Classify w) = opcode_byte (form.Bare (bare.Classify w)) ∷ []
leaf_text (Declassify w) = opcode_byte (form.Bare (bare.Declassify w)) ∷ []

abbrev pub opener_of : Shape → Opener
opener_of OfBlock = opener.Block
opener_of OfLoop = opener.Loop
opener_of OfIf = opener.If

abbrev pub block_type_byte : Option (ValueType Label) → ℕ
block_type_byte None = 0x40
block_type_byte (Some t) = type_byte t

abbrev pub op_text : Op Label → List ℕ
op_text (Plain leaf) = leaf_text leaf
op_text (Opens shape t) = opcode_byte (form.Opens (opener_of shape)) ∷ block_type_byte t ∷ []
op_text (Closes ByElse) = opcode_byte (form.Bare bare.Else) ∷ []
op_text (Closes ByEnd) = opcode_byte (form.Bare bare.End) ∷ []

-- instructions with the closing end
abbrev pub body_text : Code Label → List ℕ
body_text code = all_texts op_text (opcodes code)

-- ---- constant expressions and what begins by them

abbrev pub constant_text : Constant Label → List ℕ
constant_text (Number t bits) = leaf_text (Const t.width t.tag bits) ++ op_text (Closes ByEnd)
constant_text (ValueOf global) = leaf_text (GlobalGet global) ++ op_text (Closes ByEnd)

abbrev pub global_text : Global Label → List ℕ
global_text g = variable_text g.type ++ constant_text g.init

abbrev pub element_text : Element Label → List ℕ
element_text e = u32_text e.table ++ constant_text e.offset ++ vector_text u32_text e.functions

abbrev pub segment_text : Segment Label → List ℕ
segment_text s = u32_text s.memory ++ constant_text s.offset ++ sized_text s.bytes

-- ---- code

-- one local in front of groups
abbrev pub local_before : ValueType Label → List Group → List Group
local_before t [] = record { count = 1; type = t } ∷ []
local_before t (g ∷ groups) =
    if same_type t g.type then record { count = suc g.count; type = g.type } ∷ groups
    else record { count = 1; type = t } ∷ g ∷ groups

-- the fewest groups: those that stand one after another have different types
abbrev pub groups_of : List (ValueType Label) → List Group
groups_of [] = []
groups_of (t ∷ types) = local_before t (groups_of types)

abbrev pub group_text : Group → List ℕ
group_text g = u32_text g.count ++ type_text g.type

abbrev pub code_text : Function Label → List ℕ
code_text f = sized_text (vector_text group_text (groups_of f.locals) ++ body_text f.body)

-- ---- sections

abbrev pub section_text : ℕ → List ℕ → List ℕ
section_text id contents = id ∷ sized_text contents

-- a section of items; none where there are none
abbrev pub items_text : {A : Type 0} → ℕ → (A → List ℕ) → List A → List ℕ
items_text id text [] = []
items_text id text (a ∷ others) = section_text id (vector_text text (a ∷ others))

abbrev pub start_text : Option ℕ → List ℕ
start_text None = []
start_text (Some function) = section_text 8 (u32_text function)

abbrev pub custom_text : Custom → List ℕ
custom_text c = section_text 0 (sized_text c.name ++ c.bytes)

-- the custom sections of a place
abbrev pub customs_text : ℕ → List Custom → List ℕ
customs_text place customs = all_texts custom_text (filter (λ c. c.place == place) customs)

-- the section of an id, and the custom sections of its place
abbrev pub placed_text : ℕ → List ℕ → List Custom → List ℕ
placed_text id section customs = section ++ customs_text id customs

-- the sections
unfoldable pub sections_text : Module Label → List ℕ
sections_text m = customs_text 0 m.customs
    ++ placed_text 1 (items_text 1 type_entry_text m.types) m.customs
    ++ placed_text 2 (items_text 2 import_text m.imports) m.customs
    ++ placed_text 3 (items_text 3 (λ f. u32_text f.type) m.functions) m.customs
    ++ placed_text 4 (items_text 4 table_text (optional m.table)) m.customs
    ++ placed_text 5 (items_text 5 memory_text (optional m.memory)) m.customs
    ++ placed_text 6 (items_text 6 global_text m.globals) m.customs
    ++ placed_text 7 (items_text 7 export_text m.exports) m.customs
    ++ placed_text 8 (start_text m.start) m.customs
    ++ placed_text 9 (items_text 9 element_text m.elements) m.customs
    ++ placed_text 10 (items_text 10 code_text m.functions) m.customs
    ++ placed_text 11 (items_text 11 segment_text m.segments) m.customs

-- the one canonical spelling
unfoldable pub canon : Module Label → List ℕ
canon m = magic ++ version m.ct ++ sections_text m
