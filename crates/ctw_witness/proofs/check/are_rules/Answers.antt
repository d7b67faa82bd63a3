use Rattle.std.proofs.Common.{◌≡◌, ◌-◌, Some, Bool, true, false, refl, rules, arith}
use Rattle.std.proofs.lemmas.Bool.{false≢true}
use Rattle.ctw_witness.proofs.FlowLaws.{rules_stop, rules_step, rules_rest, rules_end}
use Rattle.ctw_witness.proofs.check.are_rules.Goals as goal

pub returns-then-ne : goal.returns-then-ne
returns-then-ne c =
    let f : c.rule.result ≡ Some c.rule-in-links.result → ⊥ = search rules in
    λ links h. (
      (λ e. absurd (false≢true e)),
      (λ w. absurd (rules_stop links c.args.graph.now h c.args.w.now.sites c.args.w.now.rules c.links.i c.site.result c.site-in-links.result c.rule-in-links.result c.links.invariant.from c.site.ensures c.site-in-links.ensures c.rule-in-links.ensures c.rule.result c.rule.ensures f (c.links.invariant.back links h w))),
    )

pub links-preserved : goal.links-preserved
links-preserved c =
    let e : c.rule.result ≡ Some c.rule-in-links.result = search rules in
    record {
      from = omega (arith, c.links.invariant.from);
      within = omega (arith, c.links-test.true, c.count-i-end.ensures.count);
      on = λ links h w. c.links.invariant.on links h (rules_step links c.args.graph.now h c.args.w.now.sites c.args.w.now.rules c.links.i c.site.result c.site-in-links.result c.rule-in-links.result c.links.invariant.from c.site.ensures c.site-in-links.ensures c.rule-in-links.ensures c.rule.result c.rule.ensures e w);
      back = λ links h w. rules_rest links c.args.graph.now h c.args.w.now.sites c.args.w.now.rules c.links.i c.site.result c.site-in-links.result c.rule-in-links.result c.links.invariant.from c.site.ensures c.site-in-links.ensures c.rule-in-links.ensures c.rule.result c.rule.ensures (c.links.invariant.back links h w);
    }

pub returns : goal.returns
returns c = λ links h. (
  (λ e. c.links.invariant.on links h (rules_end links c.args.w.now.sites c.args.w.now.rules (c.links.i - 1) (omega (arith, c.links.invariant.from, c.links.invariant.within, c.links-test.false, c.count-i-end.ensures.count)) (omega (arith, c.links.invariant.from, c.links.invariant.within, c.links-test.false, c.count-i-end.ensures.count, c.count-i-end.ensures.linked)))),
  (λ w. refl),
)
