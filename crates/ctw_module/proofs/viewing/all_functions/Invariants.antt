use Rattle.std.proofs.Common.{◌≡◌, take}
use Rattle.ctw_ops.specs.Tree.{imported_functions}
use Rattle.ctw_module.proofs.viewing.all_functions.Given as goal

abbrev pub invariant-imports : goal.invariant-imports
invariant-imports l = l.all.items ≡ imported_functions (take l.import-index l.imports)
