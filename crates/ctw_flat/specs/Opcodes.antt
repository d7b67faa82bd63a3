-- The bytes of opcodes (W3C WebAssembly Core 1.0, section 5.4, without floats) and those of secret forms and labels.
use Rattle.std.specs.Prelude.{ℕ, Bool, true, false, List, [], ◌∷◌, Option, Some, None, Result, Ok, Err, nat_le, ◌==◌, ◌||◌, if◌then◌else◌}
use Rattle.ctw_ops.specs.ValueType.{ValueType}
use Rattle.ctw_ops.specs.Types.{value_type, type_byte}
use Rattle.ctw_ops.specs.Numeric.{within, is_numeric}
use Rattle.ctw_ops.specs.declared.types.Label.{Label}
use Rattle.ctw_ops.specs.declared.types.Label.TheVariants.{Public, Secret}
use Rattle.ctw_ops.specs.declared.types.Width.{Width}
use Rattle.ctw_ops.specs.declared.types.Width.TheVariants.{W32, W64}
use Rattle.ctw_flat.specs.declared.fault.CodeKind.{CodeKind}
use Rattle.ctw_flat.specs.declared.fault.CodeKind.TheVariants.{BadOpcode, Floats, BadBlockType}
use Rattle.ctw_flat.specs.declared.opcode.Bare as BareForms
use Rattle.ctw_flat.specs.declared.opcode.Bare.TheVariants.{Unreachable, Nop, Else, End, Return, Drop, Classify, Declassify}
use Rattle.ctw_flat.specs.declared.opcode.Opener.{Opener}
use Rattle.ctw_flat.specs.declared.opcode.Opener.TheVariants.{Block, Loop, If}
use Rattle.ctw_flat.specs.declared.opcode.Indexed as IndexedForms
use Rattle.ctw_flat.specs.declared.opcode.Indexed.TheVariants.{Br, BrIf, Call, LocalGet, LocalSet, LocalTee, GlobalGet, GlobalSet}
use Rattle.ctw_flat.specs.declared.opcode.Access as AccessForms
use Rattle.ctw_flat.specs.declared.opcode.Access.TheVariants.{Load, Store}
use Rattle.ctw_flat.specs.declared.opcode.Form.{Form}
use Rattle.ctw_flat.specs.declared.opcode.Form.TheVariants.{Bare, Opens, Indexed, BrTable, CallIndirect, MemorySize, MemoryGrow, Select, Access, Const, Numeric}
use Rattle.ctw_flat.specs.declared.opcode.First.{First}
use Rattle.ctw_flat.specs.declared.opcode.First.TheVariants.{Direct, Prefix}

-- the opcodes of floats
unfoldable pub is_float : ℕ → Bool
is_float byte =
    within 0x2A 0x2B byte || within 0x38 0x39 byte || within 0x43 0x44 byte || within 0x5B 0x66 byte
    || within 0x8B 0xA6 byte
    || within 0xA8 0xAB byte || within 0xAE 0xBF byte

abbrev pub load_form : Width → ℕ → Bool → Form
load_form width bytes signed = Access (Load width bytes signed)

abbrev pub store_form : Width → ℕ → Form
store_form width bytes = Access (Store width bytes)

-- ---- the opcode of each form

abbrev pub bare_opcode : BareForms.Bare → ℕ
bare_opcode Unreachable = 0x00
bare_opcode Nop = 0x01
bare_opcode Else = 0x05
bare_opcode End = 0x0B
bare_opcode Return = 0x0F
bare_opcode Drop = 0x1A
bare_opcode (Classify W32) = 0xE1
bare_opcode (Classify W64) = 0xE2
bare_opcode (Declassify W32) = 0xE3
bare_opcode (Declassify W64) = 0xE4

abbrev pub opener_opcode : Opener → ℕ
opener_opcode Block = 0x02
opener_opcode Loop = 0x03
opener_opcode If = 0x04

abbrev pub indexed_opcode : IndexedForms.Indexed → ℕ
indexed_opcode Br = 0x0C
indexed_opcode BrIf = 0x0D
indexed_opcode Call = 0x10
indexed_opcode LocalGet = 0x20
indexed_opcode LocalSet = 0x21
indexed_opcode LocalTee = 0x22
indexed_opcode GlobalGet = 0x23
indexed_opcode GlobalSet = 0x24

abbrev by_sign : Bool → ℕ → ℕ → ℕ
by_sign true signed unsigned = signed
by_sign false signed unsigned = unsigned

abbrev pub load_opcode : Width → ℕ → Bool → ℕ
load_opcode W32 bytes signed =
    if bytes == 1 then by_sign signed 0x2C 0x2D else if bytes == 2 then by_sign signed 0x2E 0x2F else 0x28
load_opcode W64 bytes signed =
    if bytes == 1 then by_sign signed 0x30 0x31 else if bytes == 2 then by_sign signed 0x32 0x33 else if bytes == 4
    then by_sign signed 0x34 0x35 else 0x29

abbrev pub store_opcode : Width → ℕ → ℕ
store_opcode W32 bytes = if bytes == 1 then 0x3A else if bytes == 2 then 0x3B else 0x36
store_opcode W64 bytes = if bytes == 1 then 0x3C else if bytes == 2 then 0x3D else if bytes == 4 then 0x3E else 0x37

abbrev pub access_opcode : AccessForms.Access → ℕ
access_opcode (Load width bytes signed) = load_opcode width bytes signed
access_opcode (Store width bytes) = store_opcode width bytes

abbrev pub const_opcode : Width → ℕ
const_opcode W32 = 0x41
const_opcode W64 = 0x42

abbrev pub opcode_byte : Form → ℕ
opcode_byte (Bare b) = bare_opcode b
opcode_byte (Opens o) = opener_opcode o
opcode_byte (Indexed x) = indexed_opcode x
opcode_byte BrTable = 0x0E
opcode_byte CallIndirect = 0x11
opcode_byte MemorySize = 0x3F
opcode_byte MemoryGrow = 0x40
opcode_byte Select = 0x1B
opcode_byte (Access a) = access_opcode a
opcode_byte (Const width) = const_opcode width
opcode_byte (Numeric op) = op

-- the byte in front of the opcode of a secret form
abbrev pub prefix_byte : ℕ
prefix_byte = 0xE0

-- ---- the form of each opcode

-- the one of these forms whose opcode a byte is
abbrev pub form_among : List Form → ℕ → Result Form CodeKind
form_among [] byte = Err BadOpcode
form_among (f ∷ forms) byte = if byte == opcode_byte f then Ok f else form_among forms byte

-- control instructions (section 5.4.1)
abbrev pub control_forms : List Form
control_forms =
    Bare Unreachable ∷ Bare Nop ∷ Opens Block ∷ Opens Loop ∷ Opens If ∷ Bare Else ∷ Bare End ∷ Indexed Br
    ∷ Indexed BrIf ∷ BrTable ∷ Bare Return ∷ Indexed Call ∷ CallIndirect ∷ []

unfoldable pub control_form : ℕ → Result Form CodeKind
control_form = form_among control_forms

-- instructions on operands, locals and globals (sections 5.4.2 and 5.4.3)
abbrev pub variable_forms : List Form
variable_forms =
    Bare Drop ∷ Select ∷ Indexed LocalGet ∷ Indexed LocalSet ∷ Indexed LocalTee ∷ Indexed GlobalGet
    ∷ Indexed GlobalSet ∷ []

unfoldable pub variable_form : ℕ → Result Form CodeKind
variable_form = form_among variable_forms

-- memory instructions and constants (sections 5.4.4 and 5.4.5)
abbrev pub memory_forms : List Form
memory_forms =
    load_form W32 4 false ∷ load_form W64 8 false
    ∷ load_form W32 1 true ∷ load_form W32 1 false ∷ load_form W32 2 true ∷ load_form W32 2 false
    ∷ load_form W64 1 true ∷ load_form W64 1 false ∷ load_form W64 2 true ∷ load_form W64 2 false
    ∷ load_form W64 4 true ∷ load_form W64 4 false
    ∷ store_form W32 4 ∷ store_form W64 8 ∷ store_form W32 1 ∷ store_form W32 2
    ∷ store_form W64 1 ∷ store_form W64 2 ∷ store_form W64 4
    ∷ MemorySize ∷ MemoryGrow ∷ Const W32 ∷ Const W64 ∷ []

unfoldable pub memory_form : ℕ → Result Form CodeKind
memory_form = form_among memory_forms

-- the instructions that change a label
abbrev pub labelling_forms : List Form
labelling_forms =
    Bare (Classify W32) ∷ Bare (Classify W64) ∷ Bare (Declassify W32) ∷ Bare (Declassify W64) ∷ []

unfoldable pub labelling_form : ℕ → Result Form CodeKind
labelling_form = form_among labelling_forms

-- what an opcode's byte stands for, the prefix of secret forms apart
unfoldable pub form : ℕ → Result Form CodeKind
form byte =
    if nat_le byte 0x11 then control_form byte
    else if nat_le byte 0x24 then variable_form byte
    else if is_float byte then Err Floats
    else if is_numeric byte then Ok (Numeric byte)
    else if nat_le byte 0x42 then memory_form byte
    else labelling_form byte

abbrev pub direct : Result Form CodeKind → Result First CodeKind
direct (Ok f) = Ok (Direct f)
direct (Err kind) = Err kind

-- what the first byte of an instruction stands for
unfoldable pub opcode : ℕ → Result First CodeKind
opcode byte = if byte == prefix_byte then Ok Prefix else direct (form byte)

-- whether an opcode has a secret form: select, loads, stores, constants and numeric operations
abbrev pub has_secret_form : Form → Bool
has_secret_form Select = true
has_secret_form (Access a) = true
has_secret_form (Const width) = true
has_secret_form (Numeric op) = true
has_secret_form _ = false

abbrev pub if_secret : Result Form CodeKind → Result Form CodeKind
if_secret (Ok f) = if has_secret_form f then Ok f else Err BadOpcode
if_secret (Err kind) = Err kind

-- what the byte behind the prefix stands for
unfoldable pub secret_form : ℕ → Result Form CodeKind
secret_form byte = if_secret (form byte)

-- a block's result (section 5.3.1, with the types s32 and s64)
unfoldable pub block_type : ℕ → Result (Option (ValueType Label)) CodeKind
block_type byte =
    if byte == 0x40 then Ok None
    else if byte == type_byte (value_type W32 Public) then Ok (Some (value_type W32 Public))
    else if byte == type_byte (value_type W64 Public) then Ok (Some (value_type W64 Public))
    else if byte == type_byte (value_type W32 Secret) then Ok (Some (value_type W32 Secret))
    else if byte == type_byte (value_type W64 Secret) then Ok (Some (value_type W64 Secret))
    else if byte == 0x7D then Err Floats
    else if byte == 0x7C then Err Floats
    else Err BadBlockType

-- a byte that has to be 00
abbrev pub reserved : ℕ → Result (Unit {0}) CodeKind
reserved byte = if byte == 0 then Ok tt else Err BadOpcode
