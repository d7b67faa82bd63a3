use Rattle.std.proofs.Common.{arith}
use Rattle.std.proofs.lemmas.Result.{err_from_is_err_and}
use Rattle.ctw_module.specs.Trees.{view_module}
use Rattle.ctw_module.proofs.IndexSpaces.{functions_count}
use Rattle.ctw_modcheck.proofs.Loops.{reached_none}
use Rattle.ctw_modcheck.proofs.BodyChecks.{defined_at, bodies_more, bodies_fail, bodies_all}
use Rattle.ctw_modcheck.proofs.bodies.check_bodies.Goals as goal

pub functions-init : goal.functions-init
functions-init c = reached_none _ _ 0

pub functions-preserved : goal.functions-preserved
functions-preserved c =
    let m = view_module c.args.m.now in
    let d = defined_at m c.imported_count-imported.result c.functions.i c.imported_count-imported.ensures (omega arith) in
    bodies_more m _ c.functions.i d (c.in_ok-check_function_body.ensures d.function d.named) c.functions.invariant

pub returns-in_err-check_function_body : goal.returns-in_err-check_function_body
returns-in_err-check_function_body c =
    let m = view_module c.args.m.now in
    let d = defined_at m c.imported_count-imported.result c.functions.i c.imported_count-imported.ensures (omega arith) in
    let p = err_from_is_err_and c.from_residual.result c.from_residual.ensures.1 in
    rw (p.1, p.2) (bodies_fail m _ c.functions.i d _ (c.in_err-check_function_body.ensures d.function d.named) c.functions.invariant)

pub returns : goal.returns
returns c =
    let m = view_module c.args.m.now in
    bodies_all m c.functions.i (omega (arith, functions_count m)) c.functions.invariant
