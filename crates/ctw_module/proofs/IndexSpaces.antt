-- How many functions and globals a module has.
use Rattle.std.proofs.Common.{◌≡◌, ◌+◌, length, map, arith}
use Rattle.std.proofs.lemmas.List.{length-append, length-map}
use Rattle.ctw_ops.specs.declared.types.Label.{Label}
use Rattle.ctw_ops.specs.Tree.{Module, imported_functions, imported_globals, function_entries, global_types}
use Rattle.ctw_module.specs.Lookup.{imported_count}

pub functions_count : (m : Module Label) → length (function_entries m) ≡ imported_count m + length m.functions
functions_count m = omega (arith, length-append (imported_functions m.imports) (map (λ f. f.type) m.functions), length-map m.functions (λ f. f.type))

pub globals_count : (m : Module Label) → length (global_types m) ≡ length (imported_globals m.imports) + length m.globals
globals_count m = omega (arith, length-append (imported_globals m.imports) (map (λ g. g.type) m.globals), length-map m.globals (λ g. g.type))
