-- Where the sites of functions begin, and what a defined function declares.
use Rattle.std.specs.Prelude.{ℕ, ◌+◌, List, [], ◌∷◌, Option, Some, None}
use Rattle.ctw_ops.specs.declared.types.Label.{Label}
use Rattle.ctw_ops.specs.Types.{ValueType, FunctionType}
use Rattle.ctw_ops.specs.Tree.{Module, Function, function_entries, no_function_type, type_named}
use Rattle.ctw_module.specs.Lookup.{function_named}
use Rattle.ctw_labels.specs.SitedModule.{site_count}

-- the first sites of functions with these entries, whose sites begin at `n`
abbrev pub heads_from : Module Label → ℕ → List ℕ → List ℕ
heads_from m n [] = []
heads_from m n (y ∷ ys) = n ∷ heads_from m (n + site_count (type_named m y)) ys

abbrev pub heads : Module Label → List ℕ
heads m = heads_from m 0 (function_entries m)

abbrev pub type_of_some : Module Label → Option (Function Label) → FunctionType Label
type_of_some m None = no_function_type
type_of_some m (Some f) = type_named m f.type

abbrev pub declared_of_some : Option (Function Label) → List (ValueType Label)
declared_of_some None = []
declared_of_some (Some f) = f.locals

-- the type and the declared locals of a defined function
abbrev pub own_type : Module Label → ℕ → FunctionType Label
own_type m f = type_of_some m (function_named m f)

abbrev pub declared : Module Label → ℕ → List (ValueType Label)
declared m f = declared_of_some (function_named m f)
