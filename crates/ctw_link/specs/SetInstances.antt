-- The function instances of a linked set, by their numbers in the store (W3C WebAssembly Core 1.0, sections 4.2.5,
-- 4.2.6 and 4.5.3), and which store shapes are a set's.
use Rattle.std.specs.Prelude.{◌≡◌, ℕ, List, map, flat_map, Option, Some, option_map, option_and_then, slice_get, All, Contains}
use Rattle.ctw_ops.specs.declared.types.Label.{Label}
use Rattle.ctw_ops.specs.declared.types.Limits.{Limits}
use Rattle.ctw_ops.specs.Types.{FunctionType, VariableType, MemoryType}
use Rattle.ctw_ops.specs.Tree.{Element}
use Rattle.ctw_ops.specs.Typing.{optional}
use Rattle.ctw_ops.specs.Valid.{IsValid}
use Rattle.ctw_semantics.specs.Stores.{Table}
use Rattle.ctw_semantics.specs.Instances.{ModuleInstance, FunctionInstance, Functions}
use Rattle.ctw_semantics.specs.Sound.{Shape}
use Rattle.ctw_semantics.specs.Modules.{instance_of}
use Rattle.ctw_ops.specs.ExternType.{ExternType}
use Rattle.ctw_ops.specs.ExternType as external
use Rattle.ctw_module.specs.Lookup.{function_named}
use Rattle.ctw_link.specs.Sets.{ModuleSet}
use Rattle.ctw_link.specs.Numbers.{LinkedModule, linked}

-- a linked part as a module instance; its memory and its table are the first of its numbers, if it has some
abbrev pub module_instance : LinkedModule → ModuleInstance
module_instance p = record {
  profile = p.tree.profile;
  types = p.tree.types;
  functions = p.numbers.functions;
  globals = p.numbers.globals;
  memory = slice_get p.numbers.memories 0;
  table = slice_get p.numbers.tables 0;
}

-- the functions that a part defines
abbrev pub instances_in : LinkedModule → Functions
instances_in p = map (instance_of (module_instance p) p.tree) p.tree.functions

-- the functions of a set, by their numbers in the store
abbrev pub set_instances : ModuleSet → Functions
set_instances set = flat_map instances_in (linked set)

-- the instance of a function by the part that defines it and its index there
abbrev pub instance_at : List LinkedModule → ℕ × ℕ → Option FunctionInstance
instance_at parts owner =
    option_and_then (λ p. option_map (instance_of (module_instance p) p.tree) (function_named p.tree owner.1))
    (slice_get parts owner.0)

-- ---- the shape of a set's stores

abbrev pub memories_in : LinkedModule → List (MemoryType Label)
memories_in p = optional p.tree.memory

abbrev pub globals_in : LinkedModule → List (VariableType Label)
globals_in p = map (λ g. g.type) p.tree.globals

abbrev pub tables_in : LinkedModule → List Limits
tables_in p = optional p.tree.table

-- a function that an element of a part puts into the part's table, by their numbers
pub record IsPut (p : LinkedModule) (t f : ℕ) : Type 0 where
  pub element : Element Label
  pub index : ℕ
  pub table : slice_get p.numbers.tables 0 ≡ Some t
  pub among : Contains p.tree.elements element
  pub inside : Contains element.functions index
  pub number : slice_get p.numbers.functions index ≡ Some f

-- memories, globals and tables are the set's, each of its declared type, and functions in tables are put there by
-- elements
pub record IsShapeOf (set : ModuleSet) (shape : Shape) : Type 0 where
  pub memories : shape.memories ≡ flat_map memories_in (linked set)
  pub globals : shape.globals ≡ flat_map globals_in (linked set)
  pub tables : map (λ t. t.limits) shape.tables ≡ flat_map tables_in (linked set)
  pub entries : (t f : ℕ) (table : Table) → slice_get shape.tables t ≡ Some table → Contains table.entries (Some f)
      → (p : LinkedModule) × Contains (linked set) p × IsPut p t f

-- ---- what store numbers lead to

abbrev pub LeadsToFunction : Functions → FunctionType Label → ℕ → Type 0
LeadsToFunction fns t n = (callee : FunctionInstance) × (slice_get fns n ≡ Some callee) × (callee.type ≡ t)

abbrev pub LeadsToGlobal : Shape → VariableType Label → ℕ → Type 0
LeadsToGlobal shape t n = slice_get shape.globals n ≡ Some t

abbrev pub LeadsToMemory : Shape → Label → ℕ → Type 0
LeadsToMemory shape l n = (m : MemoryType Label) × (slice_get shape.memories n ≡ Some m) × (m.tag ≡ l)

abbrev pub LeadsToTable : Shape → ℕ → Type 0
LeadsToTable shape n = (t : Table) × (slice_get shape.tables n ≡ Some t)

abbrev pub LeadsTo : Functions → Shape → ExternType Label → ℕ → Type 0
LeadsTo fns shape (external.Func entry t) n = LeadsToFunction fns t n
LeadsTo fns shape (external.Table limits) n = LeadsToTable shape n
LeadsTo fns shape (external.Memory t) n = LeadsToMemory shape t.tag n
LeadsTo fns shape (external.Global t) n = LeadsToGlobal shape t n

-- ---- sets of such modules

abbrev pub AllValid : ModuleSet → Type 0
AllValid set = All (λ p. IsValid p.tree) set
