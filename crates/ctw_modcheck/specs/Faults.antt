-- The first fault of a module that isn't valid, in the order of looking: types, imports, functions, table, memory,
-- globals, exports, start, elements, data. None where all is as it has to be around the bodies.
use Rattle.std.specs.Prelude.{ℕ, suc, Bool, true, false, not, ◌&&◌, ◌==◌, nat_le, List, [], ◌∷◌, Option, Some, None, is_some, slice_get}
use Rattle.std.specs.List.{list_all, list_any}
use Rattle.std.specs.Str.{bytes_eq}
use Rattle.ctw_ops.specs.declared.types.Label.{Label}
use Rattle.ctw_ops.specs.declared.types.Label.TheVariants.{Public}
use Rattle.ctw_ops.specs.declared.types.Width.TheVariants.{W32}
use Rattle.ctw_ops.specs.declared.types.Limits.{Limits}
use Rattle.ctw_ops.specs.declared.types.ExternTag.{ExternTag}
use Rattle.ctw_ops.specs.declared.types.ExternTag.TheVariants.{Func, Table, Memory, Global as GlobalTag}
use Rattle.ctw_ops.specs.declared.fault.Space.{Space}
use Rattle.ctw_ops.specs.declared.fault.Space.TheVariants as space
use Rattle.ctw_ops.specs.Types.{ValueType, FunctionType, VariableType, MemoryType, value_type}
use Rattle.ctw_ops.specs.Tree.{Module, TypeEntry, Extern, ImportedFunction, ImportedTable, ImportedMemory, ImportedGlobal, Import, Function, Constant, Number, ValueOf, Global, Export, Element, Segment, imported_globals, memory_among, table_among, function_entries, global_types, type_named}
use Rattle.ctw_ops.specs.Equal.{same_type, erases_alike}
use Rattle.ctw_ops.specs.Limits.{most_memory_pages}
use Rattle.ctw_modcheck.specs.declared.fault.Invalid.{Invalid}
use Rattle.ctw_modcheck.specs.declared.fault.Invalid.TheVariants.{ModuleIndex, DoubleExport, ConstExpr, LimitsOrder, StartType, SegmentType, Variant}

-- ---- faults one after another

abbrev pub or_else : Option Invalid → Option Invalid → Option Invalid
or_else (Some fault) other = Some fault
or_else None other = other

abbrev pub unless : Bool → Invalid → Option Invalid
unless true fault = None
unless false fault = Some fault

-- the first fault of items that are numbered from `index` on
abbrev pub first_in : {A : Type 0} → (ℕ → A → Option Invalid) → ℕ → List A → Option Invalid
first_in fault index [] = None
first_in fault index (item ∷ items) = or_else (fault index item) (first_in fault (suc index) items)

abbrev pub of_some : {A : Type 0} → (A → Option Invalid) → Option A → Option Invalid
of_some fault None = None
of_some fault (Some a) = fault a

abbrev pub names : {A : Type 0} → List A → ℕ → Bool
names things index = is_some (slice_get things index)

-- ---- types

abbrev pub is_variant : TypeEntry Label → Bool
is_variant entry = is_some entry.base

-- whether a variant's base is there, is no variant and erases like it
abbrev pub is_based_on : FunctionType Label → Option (TypeEntry Label) → Bool
is_based_on type None = false
is_based_on type (Some base) = not (is_variant base) && erases_alike type base.type

-- an entry with all entries and those behind it
abbrev pub variant_fault : List (TypeEntry Label) → List (TypeEntry Label) → ℕ → TypeEntry Label → Option Invalid
variant_fault all behind index entry =
    of_some
    (λ base.
    unless (list_all is_variant behind && is_based_on entry.type (slice_get all base)) (Variant index)) entry.base

abbrev pub types_fault : List (TypeEntry Label) → ℕ → List (TypeEntry Label) → Option Invalid
types_fault all index [] = None
types_fault all index (entry ∷ behind) =
    or_else (variant_fault all behind index entry) (types_fault all (suc index) behind)

-- ---- limits, imports, functions

abbrev pub upto : ℕ → Option ℕ → Bool
upto n None = true
upto n (Some max) = nat_le n max

abbrev pub in_order : Limits → Bool
in_order limits = upto limits.min limits.max

abbrev pub within_pages : Option ℕ → Bool
within_pages None = true
within_pages (Some max) = nat_le max most_memory_pages

abbrev pub is_memory : MemoryType Label → Bool
is_memory t = in_order t.limits && nat_le t.limits.min most_memory_pages && within_pages t.limits.max

abbrev pub table_fault : Space → Limits → Option Invalid
table_fault where_ limits = unless (in_order limits) (LimitsOrder where_)

abbrev pub memory_fault : Space → MemoryType Label → Option Invalid
memory_fault where_ t = unless (is_memory t) (LimitsOrder where_)

abbrev pub extern_fault : Module Label → ℕ → Extern Label → Option Invalid
extern_fault m index (ImportedFunction type) = unless (names m.types type) (ModuleIndex space.Imports index)
extern_fault m index (ImportedTable limits) = table_fault space.Imports limits
extern_fault m index (ImportedMemory type) = memory_fault space.Imports type
extern_fault m index (ImportedGlobal type) = None

abbrev pub import_fault : Module Label → ℕ → Import Label → Option Invalid
import_fault m index i = extern_fault m index i.kind

abbrev pub function_fault : Module Label → ℕ → Function Label → Option Invalid
function_fault m index f = unless (names m.types f.type) (ModuleIndex space.Functions index)

-- ---- constant expressions

-- whether a global that is named is there
abbrev pub is_there : Module Label → Constant Label → Bool
is_there m (Number type bits) = true
is_there m (ValueOf global) = names (global_types m) global

abbrev pub is_constant : Option (VariableType Label) → Bool
is_constant None = false
is_constant (Some g) = not g.mutable

abbrev pub has_type : ValueType Label → Option (VariableType Label) → Bool
has_type t None = false
has_type t (Some g) = same_type g.value t

-- whether a constant expression names none of these globals, or one that is constant
abbrev pub names_constant : List (VariableType Label) → Constant Label → Bool
names_constant globals (Number type bits) = true
names_constant globals (ValueOf global) = is_constant (slice_get globals global)

-- whether it has a type over these globals
abbrev pub is_of_type : List (VariableType Label) → ValueType Label → Constant Label → Bool
is_of_type globals t (Number type bits) = same_type type t
is_of_type globals t (ValueOf global) = has_type t (slice_get globals global)

abbrev pub global_fault : Module Label → ℕ → Global Label → Option Invalid
global_fault m index g =
    or_else (unless (is_there m g.init) (ModuleIndex space.Globals index))
    (unless
    (names_constant (imported_globals m.imports) g.init
    && is_of_type (imported_globals m.imports) g.type.value g.init) (ConstExpr space.Globals index))

-- ---- exports and start

abbrev pub names_extern : Module Label → ExternTag → ℕ → Bool
names_extern m Func index = names (function_entries m) index
names_extern m Table index = (index == 0) && is_some (table_among m.imports m.table)
names_extern m Memory index = (index == 0) && is_some (memory_among m.imports m.memory)
names_extern m GlobalTag index = names (global_types m) index

-- whether a name is among those of exports
abbrev pub has_name : List ℕ → List Export → Bool
has_name name exports = list_any (λ e. bytes_eq e.name name) exports

abbrev pub export_fault : Module Label → List Export → ℕ → Export → Option Invalid
export_fault m before index e =
    or_else (unless (names_extern m e.kind e.index) (ModuleIndex space.Exports index))
    (unless (not (has_name e.name before)) (DoubleExport index))

-- exports behind others
abbrev pub exports_fault : Module Label → List Export → ℕ → List Export → Option Invalid
exports_fault m before index [] = None
exports_fault m before index (e ∷ exports) =
    or_else (export_fault m before index e) (exports_fault m (e ∷ before) (suc index) exports)

abbrev pub has_no_types : List (ValueType Label) → Option (ValueType Label) → Bool
has_no_types [] None = true
has_no_types _ _ = false

-- a type without parameters and result
abbrev pub is_bare : FunctionType Label → Bool
is_bare f = has_no_types f.params f.result

-- the start function's type index, where the function is there
abbrev pub start_type_fault : Module Label → Option ℕ → Option Invalid
start_type_fault m None = Some (ModuleIndex space.Start 0)
start_type_fault m (Some type) = unless (is_bare (type_named m type)) StartType

abbrev pub start_fault : Module Label → ℕ → Option Invalid
start_fault m function = start_type_fault m (slice_get (function_entries m) function)

-- ---- segments

-- an offset: a global that is there, is constant, and is of type i32
abbrev pub offset_fault : Module Label → Space → ℕ → Bool → Constant Label → Option Invalid
offset_fault m where_ index found offset =
    or_else (unless (found && is_there m offset) (ModuleIndex where_ index))
    (or_else (unless (names_constant (global_types m) offset) (ConstExpr where_ index))
    (unless (is_of_type (global_types m) (value_type W32 Public) offset) (SegmentType where_ index)))

abbrev pub element_fault : Module Label → ℕ → Element Label → Option Invalid
element_fault m index e =
    offset_fault m space.Elements index
    (names_extern m Table e.table && list_all (names (function_entries m)) e.functions) e.offset

abbrev pub segment_fault : Module Label → ℕ → Segment Label → Option Invalid
segment_fault m index s = offset_fault m space.Segments index (names_extern m Memory s.memory) s.offset

-- ---- the whole around the bodies

unfoldable pub around_fault : Module Label → Option Invalid
around_fault m =
    or_else (types_fault m.types 0 m.types)
    (or_else (first_in (import_fault m) 0 m.imports)
    (or_else (first_in (function_fault m) 0 m.functions)
    (or_else (of_some (table_fault space.Tables) m.table)
    (or_else (of_some (memory_fault space.Memories) m.memory)
    (or_else (first_in (global_fault m) 0 m.globals)
    (or_else (exports_fault m [] 0 m.exports)
    (or_else (of_some (start_fault m) m.start)
    (or_else (first_in (element_fault m) 0 m.elements)
    (first_in (segment_fault m) 0 m.segments)))))))))
