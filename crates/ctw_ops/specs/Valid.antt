-- Valid modules (W3C WebAssembly Core 1.0, section 3.4, with the variants of CT modules).
use Rattle.std.specs.Prelude.{◌≡◌, ◌≢◌, ◌≤◌, ℕ, false, List, [], ◌++◌, length, Option, Some, None, IsSome, IfSome, slice_get, All, AllPairs}
use Rattle.ctw_ops.specs.declared.types.Label.{Label}
use Rattle.ctw_ops.specs.declared.types.Label.TheVariants.{Public}
use Rattle.ctw_ops.specs.declared.types.Width.TheVariants.{W32}
use Rattle.ctw_ops.specs.declared.types.Limits.{Limits}
use Rattle.ctw_ops.specs.declared.types.ExternTag.{ExternTag}
use Rattle.ctw_ops.specs.declared.types.ExternTag.TheVariants.{Func, Table, Memory, Global as GlobalTag}
use Rattle.ctw_ops.specs.Types.{ValueType, VariableType, MemoryType, FitsWidth, EraseAlike, value_type}
use Rattle.ctw_ops.specs.Tree.{Module, TypeEntry, Extern, ImportedFunction, ImportedTable, ImportedMemory, ImportedGlobal, Constant, Number, ValueOf, Global, Element, Segment, imported_globals, memory_among, table_among, function_entries, global_types, type_named}
use Rattle.ctw_ops.specs.Bodies.{HasItsType}
use Rattle.ctw_ops.specs.Limits.{most_memory_pages}
use Rattle.ctw_ops.specs.Once.{all_tables, all_memories}
use Rattle.ctw_ops.specs.Plain.{IsPlainModule}

abbrev pub IsEntry : TypeEntry Label → Type 0
IsEntry entry = entry.base ≡ None

-- an entry that names one that is no variant, and erases like it
abbrev pub IsVariant : List (TypeEntry Label) → TypeEntry Label → Type 0
IsVariant types entry =
    (index : ℕ) × (base : TypeEntry Label) × (entry.base ≡ Some index) × (slice_get types index ≡ Some base)
    × IsEntry base
    × EraseAlike entry.type base.type

-- variants stand after all other entries
pub record AreTypes (types : List (TypeEntry Label)) : Type 0 where
  pub entries : List (TypeEntry Label)
  pub variants : List (TypeEntry Label)
  pub all : types ≡ entries ++ variants
  pub plain : All IsEntry entries
  pub based : All (IsVariant types) variants

-- an index that names something
abbrev pub Names : {A : Type 0} → List A → ℕ → Type 0
Names things index = IsSome (slice_get things index)

-- a least size passes no greatest one (section 3.2.1)
abbrev pub AreLimits : Limits → Type 0
AreLimits limits = IfSome limits.max (λ max. limits.min ≤ max)

-- a memory's sizes (section 3.2.4)
abbrev pub IsMemory : MemoryType Label → Type 0
IsMemory t =
    AreLimits t.limits × (t.limits.min ≤ most_memory_pages) × IfSome t.limits.max (λ max. max ≤ most_memory_pages)

abbrev pub IsImported : Module Label → Extern Label → Type 0
IsImported m (ImportedFunction type) = Names m.types type
IsImported m (ImportedTable limits) = AreLimits limits
IsImported m (ImportedMemory type) = IsMemory type
IsImported m (ImportedGlobal type) = Unit {0}

abbrev pub IsConstantOf : ValueType Label → Option (VariableType Label) → Type 0
IsConstantOf t global = (g : VariableType Label) × (global ≡ Some g) × (g.mutable ≡ false) × (g.value ≡ t)

-- a constant expression over these globals has a type (section 3.3.7)
abbrev pub HasType : List (VariableType Label) → ValueType Label → Constant Label → Type 0
HasType globals t (Number type bits) = type ≡ t
HasType globals t (ValueOf global) = IsConstantOf t (slice_get globals global)

-- a global begins with a constant or an imported global that is constant
abbrev pub IsGlobal : Module Label → Global Label → Type 0
IsGlobal m g = HasType (imported_globals m.imports) g.type.value g.init

-- an offset may be any global that is constant
abbrev pub IsOffset : Module Label → Constant Label → Type 0
IsOffset m offset = HasType (global_types m) (value_type W32 Public) offset

abbrev pub IsExported : Module Label → ExternTag → ℕ → Type 0
IsExported m Func index = Names (function_entries m) index
IsExported m Table index = (index ≡ 0) × IsSome (table_among m.imports m.table)
IsExported m Memory index = (index ≡ 0) × IsSome (memory_among m.imports m.memory)
IsExported m GlobalTag index = Names (global_types m) index

-- the start function has no parameter and no result (section 3.4.9)
abbrev pub IsStart : Module Label → ℕ → Type 0
IsStart m function =
    (type : ℕ) × (slice_get (function_entries m) function ≡ Some type) × ((type_named m type).params ≡ [])
    × ((type_named m type).result ≡ None)

abbrev pub IsElement : Module Label → Element Label → Type 0
IsElement m e =
    (e.table ≡ 0) × IsSome (table_among m.imports m.table) × IsOffset m e.offset
    × All (Names (function_entries m)) e.functions

abbrev pub IsSegment : Module Label → Segment Label → Type 0
IsSegment m s = (s.memory ≡ 0) × IsSome (memory_among m.imports m.memory) × IsOffset m s.offset

-- what a valid module has around its bodies; its indexes name what is there
pub record IsValidAround (m : Module Label) : Type 0 where
  pub types : AreTypes m.types
  pub imports : All (λ i. IsImported m i.kind) m.imports
  pub functions : All (λ f. Names m.types f.type) m.functions
  pub table : IfSome m.table AreLimits
  pub memory : IfSome m.memory IsMemory
  pub globals : All (IsGlobal m) m.globals
  pub exports : All (λ e. IsExported m e.kind e.index) m.exports
  pub names : AllPairs (λ a b. a.name ≢ b.name) m.exports
  pub start : IfSome m.start (IsStart m)
  pub elements : All (IsElement m) m.elements
  pub segments : All (IsSegment m) m.segments

-- ---- what holds of every module that bytes spell

-- the number of a constant expression is one of its type's width
abbrev pub IsFitting : Constant Label → Type 0
IsFitting (Number type bits) = FitsWidth type.width bits
IsFitting (ValueOf global) = Unit {0}

-- There is at most one table and at most one memory, imported or defined, numbers fit their types, and a plain module
-- has no label, trust, variant, classify or declassify.
pub record IsFormed (m : Module Label) : Type 0 where
  pub tables : length (all_tables m) ≤ 1
  pub memories : length (all_memories m) ≤ 1
  pub globals : All (λ g. IsFitting g.init) m.globals
  pub elements : All (λ e. IsFitting e.offset) m.elements
  pub segments : All (λ s. IsFitting s.offset) m.segments
  pub plain : m.ct ≡ false → IsPlainModule m

-- a valid module: besides, each body has its function's type
pub record IsValid (m : Module Label) : Type 0 where
  pub formed : IsFormed m
  pub around : IsValidAround m
  pub bodies : All (HasItsType m) m.functions
