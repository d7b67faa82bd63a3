-- Small sets, linked by computing.
use Rattle.std.proofs.Common.{◌≡◌, ℕ, true, List, [], ◌∷◌, Option, Some, None, refl}
use Rattle.ctw_ops.specs.declared.types.Label.{Label}
use Rattle.ctw_ops.specs.declared.types.Label.TheVariants.{Public, Secret}
use Rattle.ctw_ops.specs.declared.types.Width.TheVariants.{W32}
use Rattle.ctw_ops.specs.declared.types.Trust.TheVariants.{Untrusted}
use Rattle.ctw_ops.specs.declared.types.Limits.{Limits}
use Rattle.ctw_ops.specs.declared.types.ExternTag.TheVariants.{Func, Table}
use Rattle.ctw_ops.specs.declared.numeric.Profile.TheVariants.{Divide}
use Rattle.ctw_ops.specs.Types.{FunctionType, MemoryType, value_type}
use Rattle.ctw_ops.specs.Code.{Code, Stop, Then, CallIndirect}
use Rattle.ctw_ops.specs.Tree.{Module, TypeEntry, Import, Function, Export, Element, Number, Extern, ImportedFunction, ImportedTable}
use Rattle.ctw_module.specs.declared.types.ExternKind.TheVariants as external
use Rattle.ctw_link.specs.declared.fault.LinkFault.TheVariants.{NoImport, ImportType, TableMix, DoubleName}
use Rattle.ctw_link.specs.Sets.{NamedModule}
use Rattle.ctw_link.specs.Numbers.{number_in, owners}
use Rattle.ctw_ops.specs.Limits.{most_set_pages, most_set_entries}
use Rattle.ctw_link.specs.Faults.{set_fault}

abbrev takes : Label → FunctionType Label
takes l = record { trust = Untrusted; params = value_type W32 l ∷ []; result = None }

abbrev entry : Label → TypeEntry Label
entry l = record { base = None; type = takes l }

abbrev sized : ℕ → Limits
sized n = record { min = n; max = None }

-- a module with one type, these imports, functions, table, memory, exports and elements
abbrev module_of : Label → List (Import Label) → List (Function Label) → Option Limits → Option (MemoryType Label) → List Export → List (Element Label) → Module Label
module_of l imports functions table memory exports elements = record {
  ct = true;
  profile = Divide;
  types = entry l ∷ [];
  imports = imports;
  functions = functions;
  table = table;
  memory = memory;
  globals = [];
  exports = exports;
  start = None;
  elements = elements;
  segments = [];
  customs = [];
}

abbrev named : ℕ → Module Label → NamedModule
named name m = record { name = name ∷ []; tree = m }

abbrev imported : ℕ → ℕ → Extern Label → Import Label
imported part name kind = record { module_name = part ∷ []; name = name ∷ []; kind = kind }

-- a function with this code
abbrev function : Code Label → Function Label
function code = record { type = 0; locals = []; body = code }

abbrev exported : ℕ → Export
exported name = record { name = name ∷ []; kind = Func; index = 0 }

-- "a" exports a function of type (s32)->(); "b" imports it as one of type (i32)->()
abbrev exporter : NamedModule
exporter = named 97 (module_of Secret [] (function Stop ∷ []) None None (exported 103 ∷ []) [])

abbrev importer : Label → NamedModule
importer l = named 98 (module_of l (imported 97 103 (ImportedFunction 0) ∷ []) (function Stop ∷ function Stop ∷ []) None None [] [])

another_label : set_fault (exporter ∷ importer Public ∷ []) ≡ Some (ImportType 1 0 (external.Func 0 (takes Public)) (external.Func 0 (takes Secret)))
unfolding set_fault most_set_pages most_set_entries
another_label = refl

same_label : set_fault (exporter ∷ importer Secret ∷ []) ≡ None
unfolding set_fault most_set_pages most_set_entries
same_label = refl

a_later_part : set_fault (importer Public ∷ exporter ∷ []) ≡ Some (NoImport 0 0)
unfolding set_fault most_set_pages most_set_entries
a_later_part = refl

one_name : set_fault (exporter ∷ exporter ∷ []) ≡ Some (DoubleName 1)
unfolding set_fault most_set_pages most_set_entries
one_name = refl

-- functions are numbered part by part, and an import has the exporter's number
first_number : number_in (exporter ∷ importer Secret ∷ []) Func 1 0 ≡ Some 0
first_number = refl

last_number : number_in (exporter ∷ importer Secret ∷ []) Func 1 2 ≡ Some 2
last_number = refl

who_defines : owners (exporter ∷ importer Secret ∷ []) ≡ (0, 0) ∷ (1, 1) ∷ (1, 2) ∷ []
who_defines = refl

-- "a" exports a table whose entry 0 is a function of type (s32)->()
abbrev holder : NamedModule
holder = named 97 (module_of Secret [] (function Stop ∷ []) (Some (sized 1)) None (record { name = 116 ∷ []; kind = Table; index = 0 } ∷ [])
    (record { table = 0; offset = Number (value_type W32 Public) 0; functions = 0 ∷ [] } ∷ []))

-- "b" calls the type (i32)->() through that table, or through one of its own
abbrev caller : List (Import Label) → Option Limits → NamedModule
caller imports table = named 98 (module_of Public imports (function (Then (CallIndirect 0) Stop) ∷ []) table None [] [])

mixed_labels : set_fault (holder ∷ caller (imported 97 116 (ImportedTable (sized 0)) ∷ []) None ∷ []) ≡ Some (TableMix 0 (takes Secret) (takes Public))
unfolding set_fault most_set_pages most_set_entries
mixed_labels = refl

two_tables : set_fault (holder ∷ caller [] (Some (sized 1)) ∷ []) ≡ None
unfolding set_fault most_set_pages most_set_entries
two_tables = refl
