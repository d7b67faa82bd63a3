use Rattle.std.proofs.Common.{◌∙◌, ◌++◌, ap, arith}
use Rattle.std.specs.Prelude.{string_bytes}
use Rattle.ctw_witness.specs.Lines.{site_line}
use Rattle.ctw_witness.proofs.LineLaws.{next_on, next_end}
use Rattle.ctw_witness.proofs.text.add_next.Goals as goal

pub sites-preserved : goal.sites-preserved
sites-preserved c = record {
  from = omega (arith, c.sites.invariant.from);
  told = next_on c.args.s.now c.args.w.now.sites c.args.w.now.rules c.sites.i c.site.result c.rule.result c.name.result _ _ _ (omega (arith, c.sites.invariant.from)) c.site.ensures c.rule.ensures c.name.ensures (c.in_ok-add_line.ensures ∙ ap (λ z. string_bytes c.sites.out ++ site_line c.name.result z) c.rule_text.ensures) c.sites.invariant.told;
}

pub returns : goal.returns
returns c = next_end c.args.s.now c.args.w.now.sites c.args.w.now.rules c.sites.i _ _ (omega (arith, c.sites-test.false)) c.sites.invariant.told
