use Rattle.std.proofs.Common.{◌≡◌, ◌<◌, length, get_or, unwrap_or, sym, ap, ◌∙◌, arith}
use Rattle.std.proofs.lemmas.List.Sums.{sum_by_more}
use Rattle.std.proofs.lemmas.Option.{unwrap_or-slice_get}
use Rattle.ctw_ops.specs.declared.types.Label.{Label}
use Rattle.ctwasm_top.specs.Works.{is_secret}
use Rattle.ctwasm_top.proofs.Counted.{one_if, byte_counts, one_most}
use Rattle.ctwasm_top.proofs.counting.count_secrets.Goals as goal

pub sites-preserved : goal.sites-preserved
sites-preserved c =
    let labels = c.args.labels.now in
    let lt : c.sites.site < length labels = omega (arith, c.sites-test.true, c.requires) in
    let own : get_or labels c.sites.site c.at.result ≡ c.at.result = sym (unwrap_or-slice_get labels c.sites.site c.at.result) ∙ ap (λ o. unwrap_or o c.at.result) c.at.ensures in
    let counts : c.from-secret.result ≡ one_if (is_secret (get_or labels c.sites.site c.at.result)) =
    c.from-secret.ensures ∙ byte_counts c.is_secret.result ∙ ap one_if (c.is_secret.ensures ∙ ap is_secret (sym own)) in
    record {
      counted = omega (arith, c.sites.invariant.counted, counts, sum_by_more (λ (l : Label). one_if (is_secret l)) labels c.sites.site c.at.result lt);
      few = omega (arith, c.sites.invariant.few, counts, one_most (is_secret (get_or labels c.sites.site c.at.result)));
    }
