use Rattle.std.proofs.Common.{arith}
use Rattle.std.proofs.lemmas.Result.{err_from_is_err_and}
use Rattle.ctw_module.specs.Trees.{tree}
use Rattle.ctw_module.proofs.IndexSpaces.{globals_count}
use Rattle.ctw_modcheck.proofs.Loops.{reached_none, reached_more, reached_fault, reached_all}
use Rattle.ctw_modcheck.proofs.globals.check_globals.Goals as goal

pub globals-init : goal.globals-init
globals-init c = reached_none _ _ 0

pub globals-preserved : goal.globals-preserved
globals-preserved c = reached_more _ _ 0 _ c.in_ok-check_global.ensures c.globals.invariant

pub returns-in_err-check_global : goal.returns-in_err-check_global
returns-in_err-check_global c =
    let p = err_from_is_err_and c.from_residual.result c.from_residual.ensures.1 in
    rw (p.1, p.2) (reached_fault _ _ 0 _ _ c.in_err-check_global.ensures c.globals.invariant)

pub returns : goal.returns
returns c = reached_all _ _ 0 _ (omega (arith, globals_count (tree c.args.m.now))) c.globals.invariant
