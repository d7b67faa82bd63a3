-- The bytes of types, kinds and sections (W3C WebAssembly Core 1.0, sections 5.3, 5.4.6 and 5.5),
-- and those of CT modules.
-- Each table gives what a byte stands for, in a CT module or a plain one, or what is wrong with it.
use Rattle.std.specs.Prelude.{ℕ, Bool, true, false, ◌||◌, ◌&&◌, ◌==◌, nat_lt, Result, Ok, Err, if◌then◌else◌}
use Rattle.ctw_ops.specs.ValueType.{ValueType}
use Rattle.ctw_ops.specs.Types.{value_type as typed, type_byte}
use Rattle.ctw_ops.specs.Numeric.{within}
use Rattle.ctw_ops.specs.declared.types.Label.{Label}
use Rattle.ctw_ops.specs.declared.types.Label.TheVariants.{Public, Secret}
use Rattle.ctw_ops.specs.declared.types.Width.{Width}
use Rattle.ctw_ops.specs.declared.types.Width.TheVariants.{W32, W64}
use Rattle.ctw_ops.specs.declared.types.Trust.{Trust}
use Rattle.ctw_ops.specs.declared.types.Trust.TheVariants.{Untrusted, Trusted}
use Rattle.ctw_ops.specs.declared.types.ExternTag.{ExternTag}
use Rattle.ctw_ops.specs.declared.types.ExternTag.TheVariants.{Func, Table, Memory, Global}
use Rattle.ctw_ops.specs.declared.fault.What.TheVariants as what
use Rattle.ctw_flat.specs.declared.opcode.Bare.TheVariants.{End}
use Rattle.ctw_flat.specs.declared.opcode.Indexed.TheVariants.{GlobalGet}
use Rattle.ctw_flat.specs.Opcodes.{is_float, const_opcode, indexed_opcode, bare_opcode, prefix_byte}
use Rattle.ctw_form.specs.declared.fault.FormKind.{FormKind}
use Rattle.ctw_form.specs.declared.fault.FormKind.TheVariants.{BadType, BadOpcode, BadSection, Floats, TooMany, LabelsInPlain}
use Rattle.ctw_form.specs.declared.table.EntryForm.{EntryForm}
use Rattle.ctw_form.specs.declared.table.EntryForm.TheVariants.{Direct, Variant}
use Rattle.ctw_form.specs.declared.table.MemoryForm.{MemoryForm}
use Rattle.ctw_form.specs.declared.table.ConstantForm.{ConstantForm}
use Rattle.ctw_form.specs.declared.table.ConstantForm.TheVariants as constant
use Rattle.ctw_form.specs.declared.table.SectionKind.{SectionKind}
use Rattle.ctw_form.specs.declared.table.SectionKind.TheVariants.{Custom, Types, Imports, Functions, Tables, Memories, Globals, Exports, Start, Elements, Codes, Segments}
use Rattle.ctw_form.specs.declared.table.Held.{Held}

-- what stands for a label: it is refused in a plain module
abbrev pub labelled : {A : Type 0} → Bool → Result A FormKind → Result A FormKind
labelled true r = r
labelled false r = Err LabelsInPlain

unfoldable pub value_type : Bool → ℕ → Result (ValueType Label) FormKind
value_type ct byte =
    if byte == type_byte (typed W32 Public) then Ok (typed W32 Public)
    else if byte == type_byte (typed W64 Public) then Ok (typed W64 Public)
    else if byte == type_byte (typed W32 Secret) then labelled ct (Ok (typed W32 Secret))
    else if byte == type_byte (typed W64 Secret) then labelled ct (Ok (typed W64 Secret))
    else if byte == 0x7D || byte == 0x7C then Err Floats
    else Err BadType

unfoldable pub entry_form : Bool → ℕ → Result EntryForm FormKind
entry_form ct byte =
    if byte == 0x60 then Ok (Direct Untrusted)
    else if byte == 0x61 then labelled ct (Ok (Direct Trusted))
    else if byte == 0x62 then labelled ct (Ok Variant)
    else Err BadType

unfoldable pub trust_byte : ℕ → Result Trust FormKind
trust_byte byte = if byte == 0x00 then Ok Untrusted else if byte == 0x01 then Ok Trusted else Err BadType

-- what stands before a table's limits
unfoldable pub table_byte : ℕ → Result (Unit {0}) FormKind
table_byte byte = if byte == 0x70 then Ok tt else Err BadType

-- whether a greatest size stands behind the least
unfoldable pub limits_form : ℕ → Result Bool FormKind
limits_form byte = if byte == 0x00 then Ok false else if byte == 0x01 then Ok true else Err BadType

abbrev pub memory_of : Label → Bool → Result MemoryForm FormKind
memory_of label bounded = Ok (record { label = label; bounded = bounded })

unfoldable pub memory_form : Bool → ℕ → Result MemoryForm FormKind
memory_form ct byte =
    if byte == 0x00 then memory_of Public false
    else if byte == 0x01 then memory_of Public true
    else if byte == 0x10 then labelled ct (memory_of Secret false)
    else if byte == 0x11 then labelled ct (memory_of Secret true)
    else Err BadType

-- whether a global may be written
unfoldable pub mutability : ℕ → Result Bool FormKind
mutability byte = if byte == 0x00 then Ok false else if byte == 0x01 then Ok true else Err BadType

unfoldable pub extern_kind : ℕ → Result ExternTag FormKind
extern_kind byte =
    if byte == 0x00 then Ok Func
    else if byte == 0x01 then Ok Table
    else if byte == 0x02 then Ok Memory
    else if byte == 0x03 then Ok Global
    else Err BadType

-- the kind of an import behind imports that have so much: a second table or memory is refused
unfoldable pub import_kind : Held → ℕ → Result ExternTag FormKind
import_kind held byte =
    if byte == 0x01 && held.table then Err (TooMany what.Tables 1)
    else if byte == 0x02 && held.memory then Err (TooMany what.Memories 1)
    else extern_kind byte

-- a byte that has no meaning where an opcode of a constant expression stands
unfoldable pub no_constant : Bool → ℕ → FormKind
no_constant true byte = if is_float byte then Floats else BadOpcode
no_constant false byte = if is_float byte then Floats else if within 0xE0 0xE4 byte then LabelsInPlain else BadOpcode

-- the first opcode of a constant expression
unfoldable pub constant_form : Bool → ℕ → Result ConstantForm FormKind
constant_form ct byte =
    if byte == const_opcode W32 then Ok (constant.Number W32)
    else if byte == const_opcode W64 then Ok (constant.Number W64)
    else if byte == indexed_opcode GlobalGet then Ok constant.Global
    else if ct && (byte == prefix_byte) then Ok constant.Prefix
    else Err (no_constant ct byte)

-- the opcode behind the prefix of a constant expression
unfoldable pub secret_constant : ℕ → Result Width FormKind
secret_constant byte =
    if byte == const_opcode W32 then Ok W32
    else if byte == const_opcode W64 then Ok W64
    else Err (no_constant true byte)

-- the `end` of a constant expression
unfoldable pub constant_end : Bool → ℕ → Result (Unit {0}) FormKind
constant_end ct byte = if byte == bare_opcode End then Ok tt else Err (no_constant ct byte)

abbrev pub rising : ℕ → ℕ → SectionKind → Result SectionKind FormKind
rising last id kind = if nat_lt last id then Ok kind else Err BadSection

-- the kind of a section by its id, behind sections of which the last but custom ones had the id `last`
unfoldable pub section_kind : ℕ → ℕ → Result SectionKind FormKind
section_kind last id =
    if id == 0 then Ok Custom
    else if id == 1 then rising last 1 Types
    else if id == 2 then rising last 2 Imports
    else if id == 3 then rising last 3 Functions
    else if id == 4 then rising last 4 Tables
    else if id == 5 then rising last 5 Memories
    else if id == 6 then rising last 6 Globals
    else if id == 7 then rising last 7 Exports
    else if id == 8 then rising last 8 Start
    else if id == 9 then rising last 9 Elements
    else if id == 10 then rising last 10 Codes
    else if id == 11 then rising last 11 Segments
    else Err BadSection
