-- The first fault of a module: around the bodies, and then body by body.
use Rattle.std.specs.Prelude.{ℕ, length, Option, option_map}
use Rattle.ctw_ops.specs.declared.types.Label.{Label}
use Rattle.ctw_ops.specs.Tree.{Module, Function, imported_functions}
use Rattle.ctw_valid.specs.Faults.{body_fault}
use Rattle.ctw_modcheck.specs.declared.fault.Invalid.{Invalid}
use Rattle.ctw_modcheck.specs.declared.fault.Invalid.TheVariants.{Body}
use Rattle.ctw_modcheck.specs.Faults.{or_else, first_in, around_fault}

-- a function by its index, imported ones first
abbrev pub function_body_fault : Module Label → ℕ → Function Label → Option Invalid
function_body_fault m index f = option_map (Body index) (body_fault m f)

abbrev pub bodies_fault : Module Label → Option Invalid
bodies_fault m = first_in (function_body_fault m) (length (imported_functions m.imports)) m.functions

-- the first fault; None where the module is valid
unfoldable pub fault_of : Module Label → Option Invalid
fault_of m = or_else (around_fault m) (bodies_fault m)
