-- What is looked up in a module: exports by name (W3C WebAssembly Core 1.0, section 2.5.10), functions,
-- globals and locals by index, and how much is imported.
use Rattle.std.specs.Prelude.{ℕ, ◌-◌, List, [], ◌∷◌, ◌++◌, length, map, nat_lt, slice_get, Option, Some, None, if◌then◌else◌}
use Rattle.std.specs.Str.{bytes_eq}
use Rattle.ctw_ops.specs.declared.types.Label.{Label}
use Rattle.ctw_ops.specs.declared.types.ExternTag.{ExternTag}
use Rattle.ctw_ops.specs.declared.types.ExternTag.TheVariants.{Func, Table, Memory, Global}
use Rattle.ctw_ops.specs.Types.{ValueType}
use Rattle.ctw_ops.specs.Tree.{Module, Function, Constant, Export, imported_functions, imported_globals, type_named}
use Rattle.ctw_ops.specs.Once.{imported_tables, imported_memories}

-- the kind and index of the first export of a name
abbrev pub export_in : List ℕ → List Export → Option (ExternTag × ℕ)
export_in name [] = None
export_in name (export ∷ exports) =
    if bytes_eq export.name name then Some (export.kind, export.index) else export_in name exports

-- how many functions are imported
abbrev pub imported_count : Module Label → ℕ
imported_count m = length (imported_functions m.imports)

-- how many things of a kind are imported
abbrev pub imported_of : ExternTag → Module Label → ℕ
imported_of Func m = imported_count m
imported_of Table m = length (imported_tables m.imports)
imported_of Memory m = length (imported_memories m.imports)
imported_of Global m = length (imported_globals m.imports)

-- the defined function of an index; None where the index is an imported one's or none's
abbrev pub function_named : Module Label → ℕ → Option (Function Label)
function_named m index =
    if nat_lt index (imported_count m) then None else slice_get m.functions (index - imported_count m)

-- the types of a function's locals, parameters first
abbrev pub local_types : Module Label → Function Label → List (ValueType Label)
local_types m function = (type_named m function.type).params ++ function.locals

abbrev pub locals_of_some : Module Label → Option (Function Label) → List (ValueType Label)
locals_of_some m None = []
locals_of_some m (Some function) = local_types m function

-- the same of the defined function of an index
abbrev pub locals_named : Module Label → ℕ → List (ValueType Label)
locals_named m index = locals_of_some m (function_named m index)

-- the initial values of all globals; imported ones have none
abbrev pub global_inits : Module Label → List (Option (Constant Label))
global_inits m = map (λ type. None) (imported_globals m.imports) ++ map (λ global. Some global.init) m.globals
