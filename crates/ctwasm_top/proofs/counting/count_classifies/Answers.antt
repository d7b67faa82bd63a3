use Rattle.std.proofs.Common.{◌≡◌, ◌<◌, ℕ, length, get_or, Some, unwrap_or, sym, ap, ◌∙◌, arith}
use Rattle.std.specs.List.{count_by}
use Rattle.std.proofs.lemmas.List.Sums.{sum_by_more}
use Rattle.std.proofs.lemmas.Option.{unwrap_or-slice_get}
use Rattle.ctw_ops.specs.declared.types.Label.{Label}
use Rattle.ctw_ops.specs.Code.{opcodes}
use Rattle.ctw_ops.specs.Tree.{Function}
use Rattle.ctw_module.specs.Trees.{tree}
use Rattle.ctw_write.proofs.Listed.{item_there}
use Rattle.ctw_write.proofs.Shown.{defined_count}
use Rattle.ctw_write.proofs.Running.{named_at}
use Rattle.ctwasm_top.specs.Works.{is_classify}
use Rattle.ctwasm_top.proofs.counting.count_classifies.Goals as goal

abbrev body_counts : Function Label → ℕ
body_counts f = count_by is_classify (opcodes f.body)

pub functions-preserved : goal.functions-preserved
functions-preserved c =
    let m = tree c.args.m.now in
    let i = c.functions.i in
    let lt : i < length m.functions = omega (arith, c.functions-test.true, c.func_count.ensures, defined_count m c.imported_count-imported.result c.imported_count-imported.ensures) in
    let f = item_there m.functions i lt in
    let named = named_at m c.imported_count-imported.result i f.0 c.imported_count-imported.ensures f.1 in
    let own : get_or m.functions i f.0 ≡ f.0 = sym (unwrap_or-slice_get m.functions i f.0) ∙ ap (λ o. unwrap_or o f.0) f.1 in
    let body = c.in-Some.ensures.spelled in
    let both : Some body.0 ≡ Some f.0 = sym body.1 ∙ named in
    let same : body.0 ≡ get_or m.functions i f.0 = cc in
    let counts : c.from-count.result ≡ body_counts (get_or m.functions i f.0) = c.from-count.ensures ∙ c.classifies_in.ensures body.0.body body.2.0 ∙ ap body_counts same in
    record {
      counted = omega (arith, c.functions.invariant.counted, counts, sum_by_more body_counts m.functions i f.0 lt);
      few = omega (arith, c.functions.invariant.few, c.from-count.ensures, c.classifies_in.type_inv);
    }
