use Rattle.std.proofs.Common.{take, []}
use Rattle.ctw_module.proofs.Indexing.{GlobalsAre}
use Rattle.ctw_module.proofs.viewing.all_globals.Given as goal

abbrev pub invariant-imports : goal.invariant-imports
invariant-imports l = GlobalsAre l.all.items (take l.import-index l.imports) []

abbrev pub invariant-defined : goal.invariant-defined
invariant-defined l = GlobalsAre l.all.items l.imports (take l.entry-index l.defined)
