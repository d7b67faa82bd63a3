-- The reader of modules on lists: the file that the bytes spell, or the first fault from the left.
-- Each reader stands for the grammar of its name.
use Rattle.std.specs.Prelude.{ℕ, ◌+◌, Bool, true, false, ◌&&◌, ◌||◌, ◌==◌, nat_le, List, [], ◌∷◌, length, take, drop, Option, Some, None, Result, Ok, Err, if◌then◌else◌}
use Rattle.std.specs.Str.{bytes_eq}
use Rattle.ctw_ops.specs.ValueType.{ValueType}
use Rattle.ctw_ops.specs.Types.{FunctionType, VariableType, MemoryType, value_type as typed}
use Rattle.ctw_ops.specs.Numeric.{within as between}
use Rattle.ctw_ops.specs.Segments.{nested}
use Rattle.ctw_ops.specs.declared.types.Label.{Label}
use Rattle.ctw_ops.specs.declared.types.Label.TheVariants.{Public, Secret}
use Rattle.ctw_ops.specs.declared.types.Width.{Width}
use Rattle.ctw_ops.specs.declared.types.Width.TheVariants.{W32, W64}
use Rattle.ctw_ops.specs.declared.types.Trust.{Trust}
use Rattle.ctw_ops.specs.declared.types.Limits.{Limits}
use Rattle.ctw_ops.specs.declared.types.ExternTag.{ExternTag}
use Rattle.ctw_ops.specs.declared.types.ExternTag.TheVariants as tag
use Rattle.ctw_ops.specs.declared.fault.What.{What}
use Rattle.ctw_ops.specs.declared.fault.What.TheVariants as what
use Rattle.ctw_ops.specs.Code.{Code, Op}
use Rattle.ctw_ops.specs.Tree.{Module, TypeEntry, Extern, ImportedFunction, ImportedTable, ImportedMemory, ImportedGlobal, Import, Constant, Number, ValueOf, Global, Export, Element, Segment}
use Rattle.ctw_leb.specs.declared.fault.LebFault.{LebFault}
use Rattle.ctw_leb.specs.declared.fault.LebFault.TheVariants as leb
use Rattle.ctw_leb.specs.Input.{Input}
use Rattle.ctw_leb.specs.Grammar.{state_after}
use Rattle.ctw_leb.specs.Reading.{Reader, WholeReader, chain, give, faulted, refused, one_of, times, times_from, items, alone, all_bytes, within, then_all, mapped, seen_as, tested, ◌>>=◌}
use Rattle.ctw_leb.specs.Readers.{u32_at, s32_at, s64_at, name_at as leb_name_at}
use Rattle.ctw_flat.specs.declared.fault.CodeKind.{CodeKind}
use Rattle.ctw_flat.specs.declared.fault.CodeKind.TheVariants as code
use Rattle.ctw_flat.specs.declared.fault.CodeFault.{CodeFault}
use Rattle.ctw_flat.specs.Bodies.{is_full, opens_block, opened_by, own_body, step_at}
use Rattle.ctw_form.specs.declared.fault.FormKind.{FormKind}
use Rattle.ctw_form.specs.declared.fault.FormKind.TheVariants.{BadMagic, BadVersion, Truncated, BadLeb, SizeMismatch, CountMismatch, BadType, BadOpcode, Floats, BadUtf8, Unbalanced, TooMany, LabelsInPlain}
use Rattle.ctw_form.specs.declared.fault.FormFault.{FormFault}
use Rattle.ctw_form.specs.declared.table.EntryForm.{EntryForm}
use Rattle.ctw_form.specs.declared.table.EntryForm.TheVariants.{Direct, Variant}
use Rattle.ctw_form.specs.declared.table.ConstantForm.{ConstantForm}
use Rattle.ctw_form.specs.declared.table.ConstantForm.TheVariants as constant
use Rattle.ctw_form.specs.declared.table.SectionKind.{SectionKind}
use Rattle.ctw_form.specs.declared.table.SectionKind.TheVariants as kind
use Rattle.ctw_form.specs.declared.table.Held.{Held}
use Rattle.ctw_form.specs.declared.sections.Seen.{Seen}
use Rattle.ctw_ops.specs.Limits.{most_nesting, most_params, most_results, most_locals, most_locals_of_all, most_plain_bytes}
use Rattle.ctw_form.specs.Limits.{room_for}
use Rattle.ctw_form.specs.Tables.{value_type, entry_form, trust_byte, table_byte, limits_form, memory_form, mutability, extern_kind, import_kind, constant_form, secret_constant, constant_end, section_kind}
use Rattle.ctw_form.specs.Sections.{Group, Entry, Section, CustomSection, TypeSection, ImportSection, FunctionSection, TableSection, MemorySection, GlobalSection, ExportSection, StartSection, ElementSection, CodeSection, DataSection, none_held, held_after, nothing_seen, seen_after, first}
use Rattle.ctw_form.specs.Spelled.{entry_of, unbounded, bounded, memory_type, variable_type, import_of, export_of, global_of, element_of, segment_of, Count, count_after, group_of, code_entry, all_after, room, magic, version, File, file_of, module_in}

abbrev pub fault : FormKind → ℕ → FormFault
fault kind place = record { kind = kind; place = place }

-- the fault of a number or name where the reader stands
abbrev pub of_leb : Input → LebFault → FormFault
of_leb i leb.Truncated = fault Truncated (i.at + length i.rest)
of_leb i (leb.BadLeb place) = fault BadLeb place
of_leb i (leb.BadUtf8 place) = fault BadUtf8 place

abbrev pub of_code_kind : CodeKind → FormKind
of_code_kind code.Truncated = Truncated
of_code_kind code.BadLeb = BadLeb
of_code_kind code.BadOpcode = BadOpcode
of_code_kind code.Floats = Floats
of_code_kind code.BadBlockType = BadType
of_code_kind code.Unbalanced = Unbalanced
of_code_kind code.TooDeep = TooMany what.Nesting most_nesting

-- the fault of an instruction
abbrev pub of_code : CodeFault → FormFault
of_code f = fault (of_code_kind f.kind) f.place

-- bytes that are missing inside a section or a code entry
abbrev pub inside_kind : FormKind → FormKind
inside_kind Truncated = SizeMismatch
inside_kind kind = kind

abbrev pub inside : FormFault → FormFault
inside f = fault (inside_kind f.kind) f.place

-- ---- numbers, names and bytes

-- one byte by a table that says what is wrong with it
abbrev pub by_table : {A : Type 0} → (ℕ → Result A FormKind) → Reader A FormFault
by_table table = one_of (fault Truncated) fault table

unfoldable pub number_at : Reader ℕ FormFault
number_at = faulted of_leb u32_at

unfoldable pub bits32_at : Reader ℕ FormFault
bits32_at = faulted of_leb s32_at

unfoldable pub bits64_at : Reader ℕ FormFault
bits64_at = faulted of_leb s64_at

unfoldable pub name_at : Reader (List ℕ) FormFault
name_at = faulted of_leb leb_name_at

-- a number that passes a test; else there is too much of something where it stands
abbrev pub limited : (ℕ → Bool) → What → ℕ → Reader ℕ FormFault → Reader ℕ FormFault
limited test what limit r = tested test (fault (TooMany what limit)) r

-- how many there are of what may stand only so often
abbrev pub upto_at : ℕ → What → ℕ → Reader ℕ FormFault
upto_at room what limit = limited (λ n. nat_le n room) what limit number_at

abbrev pub vector_at : {A : Type 0} → Reader A FormFault → Reader (List A) FormFault
vector_at r = number_at >>= λ n. times r n

abbrev pub vector_upto_at : {A : Type 0} → ℕ → What → ℕ → Reader A FormFault → Reader (List A) FormFault
vector_upto_at room what limit r = upto_at room what limit >>= λ n. times r n

-- something in exactly as many bytes as its size says
abbrev pub sized_at : {A : Type 0} → WholeReader A FormFault → Reader A FormFault
sized_at r = number_at >>= λ n. within (fault Truncated) n (λ i. refused inside (r i))

-- a size and so many bytes
unfoldable pub byte_vector_at : Reader (List ℕ) FormFault
byte_vector_at = number_at >>= λ n. within (fault Truncated) n all_bytes

-- ---- types

unfoldable pub value_type_at : Bool → Reader (ValueType Label) FormFault
value_type_at ct = by_table (value_type ct)

unfoldable pub params_at : Bool → Reader (List (ValueType Label)) FormFault
params_at ct = vector_upto_at most_params what.Params most_params (value_type_at ct)

unfoldable pub results_at : Bool → Reader (List (ValueType Label)) FormFault
results_at ct = vector_upto_at most_results what.Results most_results (value_type_at ct)

unfoldable pub signature_at : Bool → Trust → Reader (FunctionType Label) FormFault
signature_at ct trust = do
  params ← params_at ct
  results ← results_at ct
  give (record { trust = trust; params = params; result = first results })

unfoldable pub variant_at : Bool → Reader (TypeEntry Label) FormFault
variant_at ct =
    number_at >>= λ base. by_table trust_byte >>= λ trust. seen_as (entry_of (Some base)) (signature_at ct trust)

abbrev pub entry_behind : Bool → EntryForm → Reader (TypeEntry Label) FormFault
entry_behind ct (Direct trust) = seen_as (entry_of None) (signature_at ct trust)
entry_behind ct Variant = variant_at ct

unfoldable pub type_entry_at : Bool → Reader (TypeEntry Label) FormFault
type_entry_at ct = by_table (entry_form ct) >>= entry_behind ct

unfoldable pub sizes_at : Bool → Reader Limits FormFault
sizes_at false = seen_as unbounded number_at
sizes_at true = number_at >>= λ min. seen_as (bounded min) number_at

unfoldable pub table_at : Reader Limits FormFault
table_at = by_table table_byte >>= λ u. by_table limits_form >>= sizes_at

unfoldable pub memory_at : Bool → Reader (MemoryType Label) FormFault
memory_at ct = by_table (memory_form ct) >>= λ form. seen_as (memory_type form.label) (sizes_at form.bounded)

unfoldable pub variable_at : Bool → Reader (VariableType Label) FormFault
variable_at ct = value_type_at ct >>= λ type. seen_as (variable_type type) (by_table mutability)

-- ---- imports and exports

unfoldable pub extern_at : Bool → ExternTag → Reader (Extern Label) FormFault
extern_at ct tag.Func = seen_as ImportedFunction number_at
extern_at ct tag.Table = seen_as ImportedTable table_at
extern_at ct tag.Memory = seen_as ImportedMemory (memory_at ct)
extern_at ct tag.Global = seen_as ImportedGlobal (variable_at ct)

unfoldable pub import_at : Bool → Held → Reader (Import Label) FormFault
import_at ct held =
    name_at >>= λ from. name_at >>= λ name. seen_as (import_of from name) (by_table (import_kind held) >>= extern_at ct)

unfoldable pub export_at : Reader Export FormFault
export_at = name_at >>= λ name. by_table extern_kind >>= λ kind. seen_as (export_of name kind) number_at

-- ---- constant expressions and what begins by them

abbrev pub bits_at : Width → Reader ℕ FormFault
bits_at W32 = bits32_at
bits_at W64 = bits64_at

unfoldable pub constant_number_at : Label → Width → Reader (Constant Label) FormFault
constant_number_at label width = seen_as (Number (typed width label)) (bits_at width)

unfoldable pub constant_behind : ConstantForm → Reader (Constant Label) FormFault
constant_behind (constant.Number width) = constant_number_at Public width
constant_behind constant.Global = seen_as ValueOf number_at
constant_behind constant.Prefix = by_table secret_constant >>= constant_number_at Secret

unfoldable pub constant_at : Bool → Reader (Constant Label) FormFault
constant_at ct =
    by_table (constant_form ct) >>= λ form. constant_behind form >>= λ value. by_table (constant_end ct) >>= λ u.
    give value

unfoldable pub global_at : Bool → Reader (Global Label) FormFault
global_at ct = variable_at ct >>= λ type. seen_as (global_of type) (constant_at ct)

unfoldable pub element_at : Bool → Reader (Element Label) FormFault
element_at ct =
    number_at >>= λ table. constant_at ct >>= λ offset. seen_as (element_of table offset) (vector_at number_at)

unfoldable pub segment_at : Bool → Reader (Segment Label) FormFault
segment_at ct = number_at >>= λ memory. constant_at ct >>= λ offset. seen_as (segment_of memory offset) byte_vector_at

-- ---- code

-- the place of the byte that stands for a label in the opcode at the front: an opcode of labels,
-- or a block's secret type
abbrev pub label_place : ℕ → List ℕ → Option ℕ
label_place at [] = None
label_place at (byte ∷ rest) =
    if between 0xE0 0xE4 byte then Some at else if between 0x02 0x04 byte then block_label rest else None
  where
    block_label : List ℕ → Option ℕ
    block_label [] = None
    block_label (type ∷ _) = if type == 0x7A || type == 0x79 then Some (at + 1) else None

-- the same where an opcode of a plain module may stand at all: something is open,
-- and a block at the front isn't too deep
abbrev pub label_at : Bool → List Bool → Input → Option ℕ
label_at true around i = None
label_at false [] i = None
label_at false (b ∷ outer) i = if is_full (b ∷ outer) && opens_block i.rest then None else label_place i.at i.rest

abbrev pub unless_label : {X : Type 0} → Option ℕ → Result X FormFault → Result X FormFault
unless_label None r = r
unless_label (Some place) r = Err (fault LabelsInPlain place)

-- the next opcode of a body, where so much is open
unfoldable pub form_step_at : Bool → List Bool → Reader (Op Label) FormFault
form_step_at ct around i = unless_label (label_at ct around i) (refused of_code (step_at around i))

abbrev pub settled : ℕ → Option (Code Label) → Result (Code Label) FormFault
settled at (Some code) = Ok code
settled at None = Err (fault Unbalanced at)

-- all of the bytes as instructions with the closing end
unfoldable pub form_body_at : Bool → WholeReader (Code Label) FormFault
form_body_at ct i =
    chain (items (form_step_at ct) opened_by own_body i) (λ ops. settled (i.at + length i.rest) (nested ops))

-- something with the bytes that spell it
abbrev pub kept : {A : Type 0} → WholeReader A FormFault → WholeReader (List ℕ × A) FormFault
kept r i = chain (r i) (λ a. Ok (i.rest, a))

-- the count of a group: the limit of the function comes before that of all
unfoldable pub group_count_at : Count → Reader ℕ FormFault
group_count_at c =
    limited (room_for most_locals_of_all c.all) what.Locals most_locals_of_all
    (limited (room_for most_locals c.own) what.Locals most_locals number_at)

unfoldable pub group_at : Bool → Count → Reader Group FormFault
group_at ct c = group_count_at c >>= λ count. seen_as (group_of count) (value_type_at ct)

unfoldable pub groups_at : Bool → ℕ → Reader (List Group) FormFault
groups_at ct all = number_at >>= λ n. times_from (group_at ct) count_after n (record { own = 0; all = all })

unfoldable pub entry_insides_at : Bool → ℕ → WholeReader Entry FormFault
entry_insides_at ct all = then_all (groups_at ct all) (λ groups. mapped (code_entry groups) (kept (form_body_at ct)))

unfoldable pub code_entry_at : Bool → ℕ → Reader Entry FormFault
code_entry_at ct all = sized_at (entry_insides_at ct all)

-- how many code entries there are: as many as functions
unfoldable pub owed_at : ℕ → Reader ℕ FormFault
owed_at owed = tested (λ n. n == owed) (fault CountMismatch) number_at

unfoldable pub codes_at : Bool → ℕ → Reader (List Entry) FormFault
codes_at ct owed = owed_at owed >>= λ n. times_from (code_entry_at ct) all_after n 0

-- ---- sections

unfoldable pub imports_at : Bool → Reader (List (Import Label)) FormFault
imports_at ct = number_at >>= λ n. times_from (import_at ct) held_after n none_held

-- all of the bytes as items of a section
abbrev pub only_at : {A : Type 0} → (A → Section) → Reader A FormFault → WholeReader Section FormFault
only_at section r = mapped section (alone (fault SizeMismatch) r)

unfoldable pub insides_at : Bool → Seen → SectionKind → WholeReader Section FormFault
insides_at ct seen kind.Custom = then_all name_at (λ name. mapped (CustomSection name) all_bytes)
insides_at ct seen kind.Types = only_at TypeSection (vector_at (type_entry_at ct))
insides_at ct seen kind.Imports = only_at ImportSection (imports_at ct)
insides_at ct seen kind.Functions = only_at FunctionSection (vector_at number_at)
insides_at ct seen kind.Tables = only_at TableSection (vector_upto_at (room seen.held.table) what.Tables 1 table_at)
insides_at ct seen kind.Memories =
    only_at MemorySection (vector_upto_at (room seen.held.memory) what.Memories 1 (memory_at ct))
insides_at ct seen kind.Globals = only_at GlobalSection (vector_at (global_at ct))
insides_at ct seen kind.Exports = only_at ExportSection (vector_at export_at)
insides_at ct seen kind.Start = only_at StartSection number_at
insides_at ct seen kind.Elements = only_at ElementSection (vector_at (element_at ct))
insides_at ct seen kind.Codes = only_at CodeSection (codes_at ct seen.owed)
insides_at ct seen kind.Segments = only_at DataSection (vector_at (segment_at ct))

unfoldable pub contents_at : Bool → Seen → SectionKind → Reader Section FormFault
contents_at ct seen kind = sized_at (insides_at ct seen kind)

-- a section behind others
unfoldable pub section_at : Bool → Seen → Reader Section FormFault
section_at ct seen = by_table (section_kind seen.last) >>= contents_at ct seen

-- ---- files

-- the version of four bytes
abbrev pub version_of : List ℕ → Result Bool FormKind
version_of bytes =
    if bytes_eq bytes (version false) then Ok false else if bytes_eq bytes (version true) then Ok true
    else Err BadVersion

abbrev pub versioned : Input → Result Bool FormKind → Result (Bool × Input) FormFault
versioned i (Ok ct) = Ok (ct, record { at = i.at + 8; rest = drop 8 i.rest })
versioned i (Err kind) = Err (fault kind (i.at + 4))

-- the magic and the version; a file below eight bytes is too short whatever its bytes are
unfoldable pub header_at : Reader Bool FormFault
header_at i =
    if nat_le 8 (length i.rest) then
    (if bytes_eq (take 4 i.rest) magic then versioned i (version_of (take 4 (drop 4 i.rest)))
    else Err (fault BadMagic i.at))
    else Err (fault Truncated (i.at + length i.rest))

-- a plain module has at most so many bytes
abbrev pub is_small : Bool → ℕ → Bool
is_small true size = true
is_small false size = nat_le size most_plain_bytes

-- the sections behind a version, in a file of so many bytes
unfoldable pub sections_at : ℕ → Bool → WholeReader (List Section) FormFault
sections_at size ct i =
    if is_small ct size then items (section_at ct) seen_after nothing_seen i
    else Err (fault (TooMany what.Bytes most_plain_bytes) 0)

-- the file, where no function is without code
abbrev pub finished : ℕ → File → Result File FormFault
finished size file =
    if (state_after seen_after nothing_seen file.sections).owed == 0 then Ok file else Err (fault CountMismatch size)

-- the file that bytes spell, or the first fault
unfoldable pub file_at : List ℕ → Result File FormFault
file_at bytes =
    chain
    (then_all header_at (λ ct. mapped (file_of ct) (sections_at (length bytes) ct))
    (record { at = 0; rest = bytes })) (finished (length bytes))

-- the module that bytes spell, or the first fault
unfoldable pub module_at : List ℕ → Result (Module Label) FormFault
module_at bytes = chain (file_at bytes) (λ file. Ok (module_in file))
