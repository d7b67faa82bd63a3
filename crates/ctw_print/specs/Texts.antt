-- The printed text of a module, part by part (W3C WebAssembly Core 1.0, chapter 6, and own words): the bytes that the
-- inks of a printed part lay out.
use Rattle.std.specs.Prelude.{ℕ, ◌==◌, ◌-◌, ◌^◌, ◌<◌, nat_lt, Bool, true, false, List, [], ◌∷◌, ◌++◌, Option, Some, None, codes, decimal, if◌then◌else◌}
use Rattle.ctw_ops.specs.declared.types.Label.{Label}
use Rattle.ctw_ops.specs.declared.types.Label.TheVariants.{Public, Secret}
use Rattle.ctw_ops.specs.declared.types.Width.{Width}
use Rattle.ctw_ops.specs.declared.types.Trust.{Trust}
use Rattle.ctw_ops.specs.declared.types.Trust.TheVariants.{Untrusted, Trusted}
use Rattle.ctw_ops.specs.declared.types.Limits.{Limits}
use Rattle.ctw_ops.specs.declared.types.ExternTag.{ExternTag}
use Rattle.ctw_ops.specs.declared.types.ExternTag.TheVariants as tag
use Rattle.ctw_ops.specs.Types.{ValueType, FunctionType, VariableType, MemoryType, value_type}
use Rattle.ctw_ops.specs.Code as ops
use Rattle.ctw_ops.specs.Code.{Leaf, Op, Plain, Opens, Closes, OfBlock, OfLoop, OfIf, ByEnd, ByElse, opcodes}
use Rattle.ctw_ops.specs.Tree as tree
use Rattle.ctw_ops.specs.Tree.{TypeEntry, Extern, Import, Function, Constant, Export, Element, Segment, Custom, Module}
use Rattle.ctw_text.specs.Grammar.{bits_in}
use Rattle.ctw_text.specs.Print.{quoted_byte, natural}
use Rattle.ctw_print.specs.Words.{value_word, select_word, load_end, store_end, numeric_word}

abbrev pub all_texts : {A : Type 0} → (A → List ℕ) → List A → List ℕ
all_texts text [] = []
all_texts text (a ∷ others) = text a ++ all_texts text others

-- ---- numbers, types and strings

abbrev pub spaced_number : ℕ → List ℕ
spaced_number n = 32 ∷ decimal n

abbrev pub spaced_type : ValueType Label → List ℕ
spaced_type t = 32 ∷ value_word t

abbrev pub string_text : List ℕ → List ℕ
string_text bytes = 34 ∷ all_texts quoted_byte bytes ++ 34 ∷ []

-- left out where there are none
abbrev pub params_text : List (ValueType Label) → List ℕ
params_text [] = []
params_text (t ∷ types) = codes " (param" ++ all_texts spaced_type (t ∷ types) ++ codes ")"

abbrev pub locals_text : List (ValueType Label) → List ℕ
locals_text [] = []
locals_text (t ∷ types) = codes " (local" ++ all_texts spaced_type (t ∷ types) ++ codes ")"

abbrev pub result_text : Option (ValueType Label) → List ℕ
result_text None = []
result_text (Some t) = codes " (result " ++ value_word t ++ codes ")"

-- a const's number, signed
abbrev pub bits_text : Width → ℕ → List ℕ
bits_text width bits =
    if nat_lt bits (2 ^ (bits_in width - 1)) then decimal bits else 45 ∷ decimal (2 ^ bits_in width - bits)

-- ---- instructions

abbrev pub offset_text : ℕ → List ℕ
offset_text offset = if offset == 0 then [] else codes " offset=" ++ decimal offset

abbrev pub align_text : (natural exponent : ℕ) → List ℕ
align_text natural exponent = if exponent == natural then [] else codes " align=" ++ decimal (2 ^ exponent)

-- offset and align, left out where they are 0 and natural
abbrev pub place_text : (bytes align offset : ℕ) → List ℕ
place_text bytes align offset = offset_text offset ++ align_text (natural bytes) align

abbrev pub leaf_text : Leaf Label → List ℕ
leaf_text ops.Unreachable = codes "unreachable"
leaf_text ops.Nop = codes "nop"
leaf_text (ops.Br depth) = codes "br " ++ decimal depth
leaf_text (ops.BrIf depth) = codes "br_if " ++ decimal depth
leaf_text (ops.BrTable targets otherwise) =
    codes "br_table" ++ all_texts spaced_number targets ++ spaced_number otherwise
leaf_text ops.Return = codes "return"
leaf_text (ops.Call index) = codes "call " ++ decimal index
leaf_text (ops.CallIndirect index) = codes "call_indirect (type " ++ decimal index ++ codes ")"
leaf_text ops.Drop = codes "drop"
leaf_text (ops.Select label) = select_word label
leaf_text (ops.LocalGet index) = codes "local.get " ++ decimal index
leaf_text (ops.LocalSet index) = codes "local.set " ++ decimal index
leaf_text (ops.LocalTee index) = codes "local.tee " ++ decimal index
leaf_text (ops.GlobalGet index) = codes "global.get " ++ decimal index
leaf_text (ops.GlobalSet index) = codes "global.set " ++ decimal index
leaf_text (ops.Load width label bytes signed align offset) =
    value_word (value_type width label) ++ load_end width bytes signed ++ place_text bytes align offset
leaf_text (ops.Store width label bytes align offset) =
    value_word (value_type width label) ++ store_end width bytes ++ place_text bytes align offset
leaf_text ops.MemorySize = codes "memory.size"
leaf_text ops.MemoryGrow = codes "memory.grow"
leaf_text (ops.Const width label bits) = value_word (value_type width label) ++ codes ".const " ++ bits_text width bits
leaf_text (ops.Numeric op label) = numeric_word op label
leaf_text (ops.Classify width) = value_word (value_type width Public) ++ codes ".classify"
leaf_text (ops.Declassify width) = value_word (value_type width Secret) ++ codes ".declassify"

abbrev pub op_text : Op Label → List ℕ
op_text (Plain leaf) = leaf_text leaf
op_text (Opens OfBlock t) = codes "block" ++ result_text t
op_text (Opens OfLoop t) = codes "loop" ++ result_text t
op_text (Opens OfIf t) = codes "if" ++ result_text t
op_text (Closes ByEnd) = codes "end"
op_text (Closes ByElse) = codes "else"

-- an opcode on a line of its own
abbrev pub op_line : Op Label → List ℕ
op_line op = codes "\n    " ++ op_text op

-- one opcode a line, but for the last one
abbrev pub lines_text : List (Op Label) → List ℕ
lines_text [] = []
lines_text (op ∷ ops) = before op ops (lines_text ops)
  where
    before : Op Label → List (Op Label) → List ℕ → List ℕ
    before op [] text = []
    before op (other ∷ ops) text = op_line op ++ text

-- an access whose align fits: 2 ^ align is a number of 32 bits
abbrev pub HasAlign : Op Label → Type 0
HasAlign (Plain (ops.Load width label bytes signed align offset)) = align < 32
HasAlign (Plain (ops.Store width label bytes align offset)) = align < 32
HasAlign _ = Unit {0}

-- ---- fields, each on a line of its own

abbrev pub use_text : ℕ → List ℕ
use_text type = codes " (type " ++ decimal type ++ codes ")"

abbrev pub trust_text : Trust → List ℕ
trust_text Untrusted = []
trust_text Trusted = codes " trusted"

abbrev pub type_text : FunctionType Label → List ℕ
type_text t = codes "(func" ++ trust_text t.trust ++ params_text t.params ++ result_text t.result ++ codes ")"

abbrev pub entry_text : Option ℕ → FunctionType Label → List ℕ
entry_text None t = type_text t
entry_text (Some base) t = codes "(variant " ++ decimal base ++ codes " " ++ type_text t ++ codes ")"

abbrev pub type_line : TypeEntry Label → List ℕ
type_line entry = codes "\n  (type " ++ entry_text entry.base entry.type ++ codes ")"

abbrev pub max_text : Option ℕ → List ℕ
max_text None = []
max_text (Some max) = spaced_number max

abbrev pub limits_text : Limits → List ℕ
limits_text limits = decimal limits.min ++ max_text limits.max

abbrev pub table_text : Limits → List ℕ
table_text limits = codes "(table " ++ limits_text limits ++ codes " funcref)"

abbrev pub memory_label : Label → List ℕ
memory_label Public = []
memory_label Secret = codes "secret "

abbrev pub memory_text : MemoryType Label → List ℕ
memory_text type = codes "(memory " ++ memory_label type.tag ++ limits_text type.limits ++ codes ")"

abbrev pub variable_text : VariableType Label → List ℕ
variable_text type =
    if type.mutable then codes "(mut " ++ value_word type.value ++ codes ")" else value_word type.value

abbrev pub extern_text : Extern Label → List ℕ
extern_text (tree.ImportedFunction type) = codes "(func" ++ use_text type ++ codes ")"
extern_text (tree.ImportedTable limits) = table_text limits
extern_text (tree.ImportedMemory type) = memory_text type
extern_text (tree.ImportedGlobal type) = codes "(global " ++ variable_text type ++ codes ")"

abbrev pub import_line : Import Label → List ℕ
import_line import =
    codes "\n  (import " ++ string_text import.module_name ++ codes " " ++ string_text import.name ++ codes " "
    ++ extern_text import.kind ++ codes ")"

abbrev pub function_lines : Function Label → List ℕ
function_lines f =
    codes "\n  (func" ++ use_text f.type ++ locals_text f.locals ++ lines_text (opcodes f.body) ++ codes "\n  )"

abbrev pub table_line : Limits → List ℕ
table_line limits = codes "\n  " ++ table_text limits

abbrev pub memory_line : MemoryType Label → List ℕ
memory_line type = codes "\n  " ++ memory_text type

abbrev pub constant_text : Constant Label → List ℕ
constant_text (tree.Number type bits) =
    codes "(" ++ value_word type ++ codes ".const " ++ bits_text type.width bits ++ codes ")"
constant_text (tree.ValueOf global) = codes "(global.get " ++ decimal global ++ codes ")"

abbrev pub global_line : tree.Global Label → List ℕ
global_line global =
    codes "\n  (global " ++ variable_text global.type ++ codes " " ++ constant_text global.init ++ codes ")"

abbrev pub kind_word : ExternTag → List ℕ
kind_word tag.Func = codes "func"
kind_word tag.Table = codes "table"
kind_word tag.Memory = codes "memory"
kind_word tag.Global = codes "global"

abbrev pub export_line : Export → List ℕ
export_line export =
    codes "\n  (export " ++ string_text export.name ++ codes " (" ++ kind_word export.kind ++ spaced_number export.index
    ++ codes "))"

abbrev pub start_line : ℕ → List ℕ
start_line function = codes "\n  (start " ++ decimal function ++ codes ")"

abbrev pub element_line : Element Label → List ℕ
element_line element =
    codes "\n  (elem " ++ constant_text element.offset ++ all_texts spaced_number element.functions ++ codes ")"

abbrev pub segment_line : Segment Label → List ℕ
segment_line segment =
    codes "\n  (data " ++ constant_text segment.offset ++ codes " " ++ string_text segment.bytes ++ codes ")"

abbrev pub custom_line : Custom → List ℕ
custom_line custom =
    codes "\n  (custom " ++ decimal custom.place ++ codes " " ++ string_text custom.name ++ codes " "
    ++ string_text custom.bytes ++ codes ")"

-- one line, if there is a thing
abbrev pub maybe_text : {A : Type 0} → (A → List ℕ) → Option A → List ℕ
maybe_text text None = []
maybe_text text (Some a) = text a

-- ---- the module

abbrev pub ct_text : Bool → List ℕ
ct_text true = codes " ct"
ct_text false = []

-- types, imports and functions
abbrev pub declarations_text : Module Label → List ℕ
declarations_text m =
    all_texts type_line m.types ++ all_texts import_line m.imports ++ all_texts function_lines m.functions

-- the defined table, memory and globals, and the exports
abbrev pub spaces_text : Module Label → List ℕ
spaces_text m =
    maybe_text table_line m.table ++ maybe_text memory_line m.memory ++ all_texts global_line m.globals
    ++ all_texts export_line m.exports

-- start, elements, data segments and custom sections
abbrev pub contents_text : Module Label → List ℕ
contents_text m =
    maybe_text start_line m.start ++ all_texts element_line m.elements ++ all_texts segment_line m.segments
    ++ all_texts custom_line m.customs

abbrev pub module_text : Module Label → List ℕ
module_text m =
    codes "(module" ++ ct_text m.ct ++ declarations_text m ++ spaces_text m ++ contents_text m ++ codes "\n)\n"
