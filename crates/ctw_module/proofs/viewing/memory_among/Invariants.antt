use Rattle.std.proofs.Common.{◌≡◌, drop}
use Rattle.ctw_ops.specs.Tree.{memory_among}
use Rattle.ctw_module.proofs.viewing.memory_among.Given as goal

abbrev pub invariant-imports : goal.invariant-imports
invariant-imports l = memory_among (drop l.import-index l.imports) l.defined ≡ memory_among l.imports l.defined
