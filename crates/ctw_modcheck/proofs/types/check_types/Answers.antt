use Rattle.std.proofs.Common.{◌∙◌, arith}
use Rattle.std.proofs.lemmas.Result.{err_from_is_err_and}
use Rattle.ctw_module.specs.Trees.{tree}
use Rattle.ctw_modcheck.proofs.Loops.{reached_none, reached_more, reached_fault, reached_all}
use Rattle.ctw_modcheck.proofs.Variants.{first_found, no_variants, types_stray, types_left}
use Rattle.ctw_modcheck.proofs.types.check_types.Goals as goal

pub returns-in_default : goal.returns-in_default
returns-in_default c = no_variants (tree c.args.m.now).types c.in_default.ensures

pub returns-then-not-are_variants_from : goal.returns-then-not-are_variants_from
returns-then-not-are_variants_from c =
    let types = (tree c.args.m.now).types in
    let e = c.in-Some.ensures in
    types_stray types c.in-Some.first (first_found types c.in-Some.first c.in-Some.ensures) c.if-not-are_variants_from.ensures

pub variants-init : goal.variants-init
variants-init c = reached_none _ _ c.in-Some.first

pub variants-preserved : goal.variants-preserved
variants-preserved c = reached_more _ _ c.in-Some.first _ c.in_ok-check_base.ensures c.variants.invariant

pub returns-in_err-check_base : goal.returns-in_err-check_base
returns-in_err-check_base c =
    let types = (tree c.args.m.now).types in
    let p = err_from_is_err_and c.from_residual.result c.from_residual.ensures.1 in
    let left = types_left types c.in-Some.first (first_found types c.in-Some.first c.in-Some.ensures) c.if-not-are_variants_from.ensures in
    rw (p.1, p.2) (left ∙ reached_fault _ _ c.in-Some.first _ _ c.in_err-check_base.ensures c.variants.invariant)

pub returns : goal.returns
returns c =
    let types = (tree c.args.m.now).types in
    let left = types_left types c.in-Some.first (first_found types c.in-Some.first c.in-Some.ensures) c.if-not-are_variants_from.ensures in
    left ∙ reached_all _ _ c.in-Some.first _ (omega arith) c.variants.invariant
