use Rattle.ctw_module.specs.Trees.{tree}
use Rattle.ctw_modcheck.proofs.ExportNames.{Named}
use Rattle.ctw_modcheck.proofs.exports.check_exports.Given as goal

abbrev pub invariant-exports : goal.invariant-exports
invariant-exports l = Named (tree l.m) l.names.keys l.index
