use Rattle.std.proofs.Common.{◌<◌, length, ◌∙◌, sym, arith}
use Rattle.ctw_ops.specs.Tree.{function_entries}
use Rattle.ctw_module.specs.Trees.{view_module}
use Rattle.ctw_sites.proofs.BodiesLaws.{is_defined}
use Rattle.ctw_infer.proofs.Walks.{functions_begin, functions_over, functions_on, functions_found, functions_end, no_misused_calls}
use Rattle.ctw_infer.proofs.trust.first_call.Goals as goal

pub returns-then-trusts_none : goal.returns-then-trusts_none
returns-then-trusts_none c = no_misused_calls c.args.p.now (c.trusts_none.ensures.0 c.if-trusts_none.true) (view_module c.args.m.now)

pub functions-init : goal.functions-init
functions-init c = functions_begin (view_module c.args.m.now) c.args.p.now c.imported_count-f.result c.imported_count-f.ensures

pub functions-preserved-then-trusted : goal.functions-preserved-then-trusted
functions-preserved-then-trusted c =
    let m = view_module c.args.m.now in
    let within : c.functions.f < length (function_entries m) = omega (arith, c.functions-test.true, c.func_count-f-end.ensures) in
    let d = is_defined m c.functions.f c.functions.invariant.from within in
    functions_over m c.args.p.now c.functions.f d.0 c.functions.invariant d.1 (sym c.trusted.ensures ∙ c.if-trusted.true)

pub first_in_body-requires : goal.first_in_body-requires
first_in_body-requires c = let s = c.in-Some.ensures.spelled in (s.0.body, s.2.0)

pub returns-in-Some-first_in_body : goal.returns-in-Some-first_in_body
returns-in-Some-first_in_body c =
    let s = c.in-Some.ensures.spelled in
    functions_found (view_module c.args.m.now) c.args.p.now c.functions.f s.0 c.functions.invariant s.1 c.in-Some-first_in_body.call (sym c.trusted.ensures ∙ c.if-trusted.false) (c.in-Some-first_in_body.ensures s.0.body s.2.0)

pub functions-preserved : goal.functions-preserved
functions-preserved c =
    let s = c.in-Some.ensures.spelled in
    functions_on (view_module c.args.m.now) c.args.p.now c.functions.f s.0 c.functions.invariant s.1 (sym c.trusted.ensures ∙ c.if-trusted.false) (c.in_default-first_in_body.ensures s.0.body s.2.0)

pub returns : goal.returns
returns c = functions_end (view_module c.args.m.now) c.args.p.now c.functions.f c.functions.invariant (omega (arith, c.functions-test.false, c.func_count-f-end.ensures))
