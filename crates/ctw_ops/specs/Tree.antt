-- The tree of a module (W3C WebAssembly Core 1.0, section 2.5, with the versions, variants and labels of CT modules).
use Rattle.std.specs.Prelude.{ℕ, Bool, List, [], ◌∷◌, ◌++◌, map, Option, Some, None, unwrap_or, slice_get}
use Rattle.ctw_ops.specs.declared.types.Trust.TheVariants.{Untrusted}
use Rattle.ctw_ops.specs.declared.numeric.Profile.{Profile}
use Rattle.ctw_ops.specs.declared.types.Limits.{Limits}
use Rattle.ctw_ops.specs.declared.types.ExternTag.{ExternTag}
use Rattle.ctw_ops.specs.Types.{ValueType, FunctionType, VariableType, MemoryType}
use Rattle.ctw_ops.specs.Code.{Code}

-- a type entry; a variant has the index of the entry that it is a variant of
pub record TypeEntry (S : Type 0) : Type 0 where
  pub base : Option ℕ
  pub type : FunctionType S

-- what is imported; a function names its type entry
pub data Extern (S : Type 0) : Type 0 where
  ImportedFunction : (type : ℕ) → Extern S
  ImportedTable : (limits : Limits) → Extern S
  ImportedMemory : (type : MemoryType S) → Extern S
  ImportedGlobal : (type : VariableType S) → Extern S

-- names are the bytes of UTF-8 texts
pub record Import (S : Type 0) : Type 0 where
  pub module_name : List ℕ
  pub name : List ℕ
  pub kind : Extern S

-- a defined function: its type entry's index, its declared locals' types, and its instructions
pub record Function (S : Type 0) : Type 0 where
  pub type : ℕ
  pub locals : List (ValueType S)
  pub body : Code S

-- a constant expression: a number's bits, or the value of a global
pub data Constant (S : Type 0) : Type 0 where
  Number : (type : ValueType S) (bits : ℕ) → Constant S
  ValueOf : (global : ℕ) → Constant S

-- a defined global
pub record Global (S : Type 0) : Type 0 where
  pub type : VariableType S
  pub init : Constant S

pub record Export : Type 0 where
  pub name : List ℕ
  pub kind : ExternTag
  pub index : ℕ

-- functions that an element segment puts into a table
pub record Element (S : Type 0) : Type 0 where
  pub table : ℕ
  pub offset : Constant S
  pub functions : List ℕ

-- bytes that a data segment puts into a memory
pub record Segment (S : Type 0) : Type 0 where
  pub memory : ℕ
  pub offset : Constant S
  pub bytes : List ℕ

-- a custom section; its place is the id of the last section before it that has items, 0 where there is none
pub record Custom : Type 0 where
  pub place : ℕ
  pub name : List ℕ
  pub bytes : List ℕ

-- `ct` tells a CT module from a plain one; functions, table, memory and globals are the defined ones
pub record Module (S : Type 0) : Type 0 where
  pub ct : Bool
  pub profile : Profile
  pub types : List (TypeEntry S)
  pub imports : List (Import S)
  pub functions : List (Function S)
  pub table : Option Limits
  pub memory : Option (MemoryType S)
  pub globals : List (Global S)
  pub exports : List Export
  pub start : Option ℕ
  pub elements : List (Element S)
  pub segments : List (Segment S)
  pub customs : List Custom

-- the module under another profile
abbrev pub under : {S : Type 0} → Profile → Module S → Module S
under profile m = record m { profile = profile }

-- ---- the index spaces, imports first (section 2.5.1)

abbrev pub with_function : {S : Type 0} → Extern S → List ℕ → List ℕ
with_function (ImportedFunction type) others = type ∷ others
with_function _ others = others

abbrev pub with_global : {S : Type 0} → Extern S → List (VariableType S) → List (VariableType S)
with_global (ImportedGlobal type) others = type ∷ others
with_global _ others = others

abbrev pub or_memory : {S : Type 0} → Extern S → Option (MemoryType S) → Option (MemoryType S)
or_memory (ImportedMemory type) other = Some type
or_memory _ other = other

abbrev pub or_table : {S : Type 0} → Extern S → Option Limits → Option Limits
or_table (ImportedTable limits) other = Some limits
or_table _ other = other

-- the type entries of the imported functions
abbrev pub imported_functions : {S : Type 0} → List (Import S) → List ℕ
imported_functions [] = []
imported_functions (i ∷ others) = with_function i.kind (imported_functions others)

abbrev pub imported_globals : {S : Type 0} → List (Import S) → List (VariableType S)
imported_globals [] = []
imported_globals (i ∷ others) = with_global i.kind (imported_globals others)

-- the first imported memory, else the defined one
abbrev pub memory_among : {S : Type 0} → List (Import S) → Option (MemoryType S) → Option (MemoryType S)
memory_among [] defined = defined
memory_among (i ∷ others) defined = or_memory i.kind (memory_among others defined)

-- the first imported table, else the defined one
abbrev pub table_among : {S : Type 0} → List (Import S) → Option Limits → Option Limits
table_among [] defined = defined
table_among (i ∷ others) defined = or_table i.kind (table_among others defined)

-- the type entries of all functions
abbrev pub function_entries : {S : Type 0} → Module S → List ℕ
function_entries m = imported_functions m.imports ++ map (λ f. f.type) m.functions

abbrev pub global_types : {S : Type 0} → Module S → List (VariableType S)
global_types m = imported_globals m.imports ++ map (λ g. g.type) m.globals

abbrev pub function_types : {S : Type 0} → Module S → List (FunctionType S)
function_types m = map (λ entry. entry.type) m.types

abbrev pub no_function_type : {S : Type 0} → FunctionType S
no_function_type = record { trust = Untrusted; params = []; result = None }

-- the type that an index names; an index that names none counts as an untrusted type without parameters and result
abbrev pub type_named : {S : Type 0} → Module S → ℕ → FunctionType S
type_named m index = unwrap_or (slice_get (function_types m) index) no_function_type
