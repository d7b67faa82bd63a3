-- Which bytes spell a module (W3C WebAssembly Core 1.0, sections 5.3 to 5.5, without floats; and the types,
-- limits and version of CT modules).
-- `ct` tells a CT module from a plain one.
use Rattle.std.specs.Prelude.{◌≡◌, ◌≤◌, ℕ, ◌+◌, Bool, true, false, ◌==◌, nat_le, List, [], ◌∷◌, length, Option, Some, None}
use Rattle.std.specs.List.{list_all}
use Rattle.ctw_ops.specs.ValueType.{ValueType}
use Rattle.ctw_ops.specs.Types.{FunctionType, VariableType, MemoryType, value_type as typed}
use Rattle.ctw_ops.specs.declared.types.Label.{Label}
use Rattle.ctw_ops.specs.declared.types.Label.TheVariants.{Public, Secret}
use Rattle.ctw_ops.specs.declared.types.Width.{Width}
use Rattle.ctw_ops.specs.declared.types.Trust.{Trust}
use Rattle.ctw_ops.specs.declared.types.Limits.{Limits}
use Rattle.ctw_ops.specs.declared.types.ExternTag.{ExternTag}
use Rattle.ctw_ops.specs.declared.types.ExternTag.TheVariants as tag
use Rattle.ctw_ops.specs.Code.{Code, opcodes}
use Rattle.ctw_ops.specs.Tree.{Module, TypeEntry, Extern, ImportedFunction, ImportedTable, ImportedMemory, ImportedGlobal, Import, Constant, Number, ValueOf, Global, Export, Element, Segment}
use Rattle.ctw_leb.specs.Grammar.{Grammar, Just, Bytes, OneOf, Items, Times, TimesFrom, Passing, Mapped, state_after, ◌>>=◌}
use Rattle.ctw_leb.specs.Numbers.{IsU32}
use Rattle.ctw_leb.specs.Vectors.{Vector, Sized, IsByteVector, IsName}
use Rattle.ctw_flat.specs.Spelled.{IsBits, IsLimitedBody}
use Rattle.ctw_form.specs.declared.table.EntryForm.{EntryForm}
use Rattle.ctw_form.specs.declared.table.EntryForm.TheVariants.{Direct, Variant}
use Rattle.ctw_form.specs.declared.table.ConstantForm.{ConstantForm}
use Rattle.ctw_form.specs.declared.table.ConstantForm.TheVariants as constant
use Rattle.ctw_form.specs.declared.table.SectionKind.{SectionKind}
use Rattle.ctw_form.specs.declared.table.SectionKind.TheVariants as kind
use Rattle.ctw_form.specs.declared.table.Held.{Held}
use Rattle.ctw_form.specs.declared.sections.Seen.{Seen}
use Rattle.ctw_ops.specs.Limits.{most_params, most_results, most_locals, most_locals_of_all, most_plain_bytes}
use Rattle.ctw_form.specs.Limits.{room_for}
use Rattle.ctw_form.specs.Tables.{value_type, entry_form, trust_byte, table_byte, limits_form, memory_form, mutability, extern_kind, import_kind, constant_form, secret_constant, constant_end, section_kind}
use Rattle.ctw_form.specs.Sections.{Group, Entry, Section, CustomSection, TypeSection, ImportSection, FunctionSection, TableSection, MemorySection, GlobalSection, ExportSection, StartSection, ElementSection, CodeSection, DataSection, locals_of, none_held, held_after, nothing_seen, seen_after, no_parts, with_section, first, module_of}
use Rattle.ctw_ops.specs.Plain.{fits}

-- ---- types

-- at most so many items behind their count
abbrev pub VectorUpto : {A : Type 0} → ℕ → Grammar A → Grammar (List A)
VectorUpto limit G = Passing (λ n. nat_le n limit) IsU32 >>= λ n. Times G n

abbrev pub IsValueType : Bool → Grammar (ValueType Label)
IsValueType ct = OneOf (value_type ct)

abbrev pub IsSignature : Bool → Trust → Grammar (FunctionType Label)
IsSignature ct trust = do
  params ← VectorUpto most_params (IsValueType ct)
  results ← VectorUpto most_results (IsValueType ct)
  Just (record { trust = trust; params = params; result = first results })

abbrev pub entry_of : Option ℕ → FunctionType Label → TypeEntry Label
entry_of base type = record { base = base; type = type }

abbrev pub EntryBehind : Bool → EntryForm → Grammar (TypeEntry Label)
EntryBehind ct (Direct trust) = Mapped (entry_of None) (IsSignature ct trust)
EntryBehind ct Variant =
    IsU32 >>= λ base. OneOf trust_byte >>= λ trust. Mapped (entry_of (Some base)) (IsSignature ct trust)

abbrev pub IsTypeEntry : Bool → Grammar (TypeEntry Label)
IsTypeEntry ct = OneOf (entry_form ct) >>= EntryBehind ct

abbrev pub unbounded : ℕ → Limits
unbounded min = record { min = min; max = None }

abbrev pub bounded : ℕ → ℕ → Limits
bounded min max = record { min = min; max = Some max }

abbrev pub Sizes : Bool → Grammar Limits
Sizes false = Mapped unbounded IsU32
Sizes true = IsU32 >>= λ min. Mapped (bounded min) IsU32

abbrev pub IsTable : Grammar Limits
IsTable = OneOf table_byte >>= λ u. OneOf limits_form >>= Sizes

abbrev pub memory_type : Label → Limits → MemoryType Label
memory_type label limits = record { tag = label; limits = limits }

abbrev pub IsMemory : Bool → Grammar (MemoryType Label)
IsMemory ct = OneOf (memory_form ct) >>= λ form. Mapped (memory_type form.label) (Sizes form.bounded)

abbrev pub variable_type : ValueType Label → Bool → VariableType Label
variable_type type mutable = record { mutable = mutable; value = type }

abbrev pub IsVariable : Bool → Grammar (VariableType Label)
IsVariable ct = IsValueType ct >>= λ type. Mapped (variable_type type) (OneOf mutability)

-- ---- imports and exports

abbrev pub IsExtern : Bool → ExternTag → Grammar (Extern Label)
IsExtern ct tag.Func = Mapped ImportedFunction IsU32
IsExtern ct tag.Table = Mapped ImportedTable IsTable
IsExtern ct tag.Memory = Mapped ImportedMemory (IsMemory ct)
IsExtern ct tag.Global = Mapped ImportedGlobal (IsVariable ct)

abbrev pub import_of : List ℕ → List ℕ → Extern Label → Import Label
import_of from name kind = record { module_name = from; name = name; kind = kind }

-- an import behind imports that have so much
abbrev pub IsImport : Bool → Held → Grammar (Import Label)
IsImport ct held =
    IsName >>= λ from. IsName >>= λ name. Mapped (import_of from name) (OneOf (import_kind held) >>= IsExtern ct)

abbrev pub export_of : List ℕ → ExternTag → ℕ → Export
export_of name kind index = record { name = name; kind = kind; index = index }

abbrev pub IsExport : Grammar Export
IsExport = IsName >>= λ name. OneOf extern_kind >>= λ kind. Mapped (export_of name kind) IsU32

-- ---- constant expressions and what begins by them

abbrev pub IsNumber : Label → Width → Grammar (Constant Label)
IsNumber label width = Mapped (Number (typed width label)) (IsBits width)

abbrev pub ConstantBehind : ConstantForm → Grammar (Constant Label)
ConstantBehind (constant.Number width) = IsNumber Public width
ConstantBehind constant.Global = Mapped ValueOf IsU32
ConstantBehind constant.Prefix = OneOf secret_constant >>= IsNumber Secret

abbrev pub IsConstant : Bool → Grammar (Constant Label)
IsConstant ct =
    OneOf (constant_form ct) >>= λ form. ConstantBehind form >>= λ value. OneOf (constant_end ct) >>= λ u. Just value

abbrev pub global_of : VariableType Label → Constant Label → Global Label
global_of type init = record { type = type; init = init }

abbrev pub IsGlobal : Bool → Grammar (Global Label)
IsGlobal ct = IsVariable ct >>= λ type. Mapped (global_of type) (IsConstant ct)

abbrev pub element_of : ℕ → Constant Label → List ℕ → Element Label
element_of table offset functions = record { table = table; offset = offset; functions = functions }

abbrev pub IsElement : Bool → Grammar (Element Label)
IsElement ct = IsU32 >>= λ table. IsConstant ct >>= λ offset. Mapped (element_of table offset) (Vector IsU32)

abbrev pub segment_of : ℕ → Constant Label → List ℕ → Segment Label
segment_of memory offset bytes = record { memory = memory; offset = offset; bytes = bytes }

abbrev pub IsSegment : Bool → Grammar (Segment Label)
IsSegment ct = IsU32 >>= λ memory. IsConstant ct >>= λ offset. Mapped (segment_of memory offset) IsByteVector

-- ---- code

-- how many locals are declared so far: of the function, and of all functions
pub record Count : Type 0 where
  pub own : ℕ
  pub all : ℕ

abbrev pub count_after : Count → Group → Count
count_after c g = record { own = c.own + g.count; all = c.all + g.count }

abbrev pub group_of : ℕ → ValueType Label → Group
group_of count type = record { count = count; type = type }

-- a group of locals behind so many
abbrev pub IsGroup : Bool → Count → Grammar Group
IsGroup ct c =
    Passing (room_for most_locals_of_all c.all) (Passing (room_for most_locals c.own) IsU32) >>= λ count.
    Mapped (group_of count) (IsValueType ct)

abbrev pub IsGroups : Bool → ℕ → Grammar (List Group)
IsGroups ct all = IsU32 >>= λ n. TimesFrom (IsGroup ct) count_after n (record { own = 0; all = all })

-- instructions with the closing end; a plain module has none with a label
abbrev pub IsFormBody : Bool → Grammar (Code Label)
IsFormBody ct text code = IsLimitedBody text code × (list_all (fits ct) (opcodes code) ≡ true)

-- something with the bytes that spell it
abbrev pub Kept : {A : Type 0} → Grammar A → Grammar (List ℕ × A)
Kept G text x = (text ≡ x.0) × G text x.1

abbrev pub code_entry : List Group → List ℕ × Code Label → Entry
code_entry groups code = record { groups = groups; code = code.0; body = code.1 }

-- a code entry behind entries with so many locals
abbrev pub IsEntry : Bool → ℕ → Grammar Entry
IsEntry ct all = Sized (IsGroups ct all >>= λ groups. Mapped (code_entry groups) (Kept (IsFormBody ct)))

abbrev pub all_after : ℕ → Entry → ℕ
all_after all e = all + length (locals_of e.groups)

-- a code entry for each function that has none yet
abbrev pub IsCodes : Bool → ℕ → Grammar (List Entry)
IsCodes ct owed = Passing (λ n. n == owed) IsU32 >>= λ n. TimesFrom (IsEntry ct) all_after n 0

-- ---- sections

abbrev pub IsImports : Bool → Grammar (List (Import Label))
IsImports ct = IsU32 >>= λ n. TimesFrom (IsImport ct) held_after n none_held

-- how many may be defined of what stands at most once
abbrev pub room : Bool → ℕ
room true = 0
room false = 1

abbrev pub Insides : Bool → Seen → SectionKind → Grammar Section
Insides ct seen kind.Custom = IsName >>= λ name. Mapped (CustomSection name) Bytes
Insides ct seen kind.Types = Mapped TypeSection (Vector (IsTypeEntry ct))
Insides ct seen kind.Imports = Mapped ImportSection (IsImports ct)
Insides ct seen kind.Functions = Mapped FunctionSection (Vector IsU32)
Insides ct seen kind.Tables = Mapped TableSection (VectorUpto (room seen.held.table) IsTable)
Insides ct seen kind.Memories = Mapped MemorySection (VectorUpto (room seen.held.memory) (IsMemory ct))
Insides ct seen kind.Globals = Mapped GlobalSection (Vector (IsGlobal ct))
Insides ct seen kind.Exports = Mapped ExportSection (Vector IsExport)
Insides ct seen kind.Start = Mapped StartSection IsU32
Insides ct seen kind.Elements = Mapped ElementSection (Vector (IsElement ct))
Insides ct seen kind.Codes = Mapped CodeSection (IsCodes ct seen.owed)
Insides ct seen kind.Segments = Mapped DataSection (Vector (IsSegment ct))

-- a section behind others
abbrev pub IsSection : Bool → Seen → Grammar Section
IsSection ct seen = OneOf (section_kind seen.last) >>= λ kind. Sized (Insides ct seen kind)

-- ---- files

abbrev pub magic : List ℕ
magic = 0x00 ∷ 0x61 ∷ 0x73 ∷ 0x6D ∷ []

abbrev pub version : Bool → List ℕ
version false = 0x01 ∷ 0x00 ∷ 0x00 ∷ 0x00 ∷ []
version true = 0x01 ∷ 0x00 ∷ 0x43 ∷ 0x54 ∷ []

abbrev pub IsVersion : Grammar Bool
IsVersion text ct = text ≡ version ct

-- the version, and the sections behind it
pub record File : Type 0 where
  pub ct : Bool
  pub sections : List Section

abbrev pub file_of : Bool → List Section → File
file_of ct sections = record { ct = ct; sections = sections }

abbrev pub IsMagic : Grammar (Unit {0})
IsMagic text u = text ≡ magic

abbrev pub IsFile : Grammar File
IsFile = IsMagic >>= λ u. IsVersion >>= λ ct. Mapped (file_of ct) (Items (IsSection ct) seen_after nothing_seen)

-- no function is without code
abbrev pub IsFinished : File → Type 0
IsFinished file = (state_after seen_after nothing_seen file.sections).owed ≡ 0

-- the module that a file's sections make
abbrev pub module_in : File → Module Label
module_in file = module_of file.ct (state_after with_section no_parts file.sections)

-- these bytes spell this module; a plain one has at most so many bytes
pub record Spells (bytes : List ℕ) (m : Module Label) : Type 0 where
  pub file : File
  pub spelled : IsFile bytes file
  pub finished : IsFinished file
  pub small : file.ct ≡ false → length bytes ≤ most_plain_bytes
  pub made : module_in file ≡ m
