-- The erased module: plain, with every label public, without trust and variants, and without classify and declassify.
use Rattle.std.specs.Prelude.{ℕ, false, List, [], ◌∷◌, map, filter_map, Option, Some, None, option_map, option_and_then, unwrap_or, slice_get}
use Rattle.ctw_ops.specs.declared.types.Label.{Label}
use Rattle.ctw_ops.specs.declared.types.Label.TheVariants.{Public}
use Rattle.ctw_ops.specs.Types.{FunctionType, VariableType, MemoryType, erase_value_type, erase_function_type}
use Rattle.ctw_ops.specs.Code.{Leaf, CallIndirect, Classify, Declassify, Code}
use Rattle.ctw_ops.specs.TagMaps.{leaf_to, code_to}
use Rattle.ctw_ops.specs.Tree.{TypeEntry, Extern, ImportedFunction, ImportedTable, ImportedMemory, ImportedGlobal, Import, Function, Constant, Number, ValueOf, Global, Element, Segment, Module}

-- ---- type entries

-- an entry without a base is kept, with its type erased; a variant is left out
abbrev pub kept_entry : Option ℕ → FunctionType Label → Option (TypeEntry Label)
kept_entry None type = Some (record { base = None; type = erase_function_type type })
kept_entry (Some base) type = None

abbrev pub erase_entries : List (TypeEntry Label) → List (TypeEntry Label)
erase_entries entries = filter_map (λ entry. kept_entry entry.base entry.type) entries

-- the entry that an index names, or the base of the variant that it names
abbrev pub base_of : {S : Type 0} → List (TypeEntry S) → ℕ → ℕ
base_of entries index = unwrap_or (option_and_then (λ entry. entry.base) (slice_get entries index)) index

-- ---- instructions

-- the label of erased code
abbrev pub erase_label : Label → Label
erase_label l = Public

-- what a leaf becomes: nothing for classify and declassify; an indirect call names the base of its type
abbrev pub erase_leaf : List (TypeEntry Label) → Leaf Label → List (Leaf Label)
erase_leaf entries (CallIndirect index) = CallIndirect (base_of entries index) ∷ []
erase_leaf entries (Classify w) = []
erase_leaf entries (Declassify w) = []
erase_leaf entries leaf = leaf_to erase_label leaf ∷ []

-- a sequence of a module with these type entries
abbrev pub erase_code : List (TypeEntry Label) → Code Label → Code Label
erase_code entries = code_to erase_label (erase_leaf entries)

-- ---- modules

abbrev pub erase_variable_type : VariableType Label → VariableType Label
erase_variable_type t = record { mutable = t.mutable; value = erase_value_type t.value }

abbrev pub erase_memory_type : MemoryType Label → MemoryType Label
erase_memory_type t = record { tag = Public; limits = t.limits }

abbrev pub erase_extern : List (TypeEntry Label) → Extern Label → Extern Label
erase_extern entries (ImportedFunction type) = ImportedFunction (base_of entries type)
erase_extern entries (ImportedTable limits) = ImportedTable limits
erase_extern entries (ImportedMemory type) = ImportedMemory (erase_memory_type type)
erase_extern entries (ImportedGlobal type) = ImportedGlobal (erase_variable_type type)

abbrev pub erase_import : List (TypeEntry Label) → Import Label → Import Label
erase_import entries i = record { module_name = i.module_name; name = i.name; kind = erase_extern entries i.kind }

abbrev pub erase_function : List (TypeEntry Label) → Function Label → Function Label
erase_function entries f =
    record { type = base_of entries f.type; locals = map erase_value_type f.locals; body = erase_code entries f.body }

abbrev pub erase_constant : Constant Label → Constant Label
erase_constant (Number type bits) = Number (erase_value_type type) bits
erase_constant (ValueOf global) = ValueOf global

abbrev pub erase_global : Global Label → Global Label
erase_global g = record { type = erase_variable_type g.type; init = erase_constant g.init }

abbrev pub erase_element : Element Label → Element Label
erase_element e = record { table = e.table; offset = erase_constant e.offset; functions = e.functions }

abbrev pub erase_segment : Segment Label → Segment Label
erase_segment s = record { memory = s.memory; offset = erase_constant s.offset; bytes = s.bytes }

-- all that isn't named here stays
abbrev pub erase_module : Module Label → Module Label
erase_module m = record {
  ct = false;
  profile = m.profile;
  types = erase_entries m.types;
  imports = map (erase_import m.types) m.imports;
  functions = map (erase_function m.types) m.functions;
  table = m.table;
  memory = option_map erase_memory_type m.memory;
  globals = map erase_global m.globals;
  exports = m.exports;
  start = m.start;
  elements = map erase_element m.elements;
  segments = map erase_segment m.segments;
  customs = m.customs;
}
