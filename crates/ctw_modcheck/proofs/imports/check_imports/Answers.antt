use Rattle.std.proofs.Common.{arith}
use Rattle.std.proofs.lemmas.Result.{err_from_is_err_and}
use Rattle.ctw_modcheck.proofs.Loops.{reached_none, reached_more, reached_fault, reached_all}
use Rattle.ctw_modcheck.proofs.imports.check_imports.Goals as goal

pub imports-init : goal.imports-init
imports-init c = reached_none _ _ 0

pub imports-preserved : goal.imports-preserved
imports-preserved c = reached_more _ _ 0 _ c.in_ok-check_import.ensures c.imports.invariant

pub returns-in_err-check_import : goal.returns-in_err-check_import
returns-in_err-check_import c =
    let p = err_from_is_err_and c.from_residual.result c.from_residual.ensures.1 in
    rw (p.1, p.2) (reached_fault _ _ 0 _ _ c.in_err-check_import.ensures c.imports.invariant)

pub returns : goal.returns
returns c = reached_all _ _ 0 _ (omega arith) c.imports.invariant
