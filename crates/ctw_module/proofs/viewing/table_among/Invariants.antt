use Rattle.std.proofs.Common.{◌≡◌, drop}
use Rattle.ctw_ops.specs.Tree.{table_among}
use Rattle.ctw_module.proofs.viewing.table_among.Given as goal

abbrev pub invariant-imports : goal.invariant-imports
invariant-imports l = table_among (drop l.import-index l.imports) l.defined ≡ table_among l.imports l.defined
