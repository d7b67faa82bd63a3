use Rattle.ctw_witness.proofs.LineLaws.{flow_told}
use Rattle.std.proofs.Common.{◌∙◌, ap}
use Rattle.ctw_witness.specs.Lines.{rule_text}
use Rattle.ctw_witness.proofs.text.witness_text.Goals as goal

pub returns : goal.returns
returns c =
    flow_told c.args.s.now c.args.w.now.sites c.args.w.now.rules c.args.w.now.last c.site.result c.name.result _ _ _ _ _ _ _ _
    c.site.ensures c.name.ensures (c.rule_text.ensures ∙ ap rule_text c.last.ensures) c.new-out.ensures.bytes
    c.in_ok-push_str.ensures.bytes c.in_ok-add_line.ensures c.in_ok-add_next.ensures c.in_ok-push_str-2.ensures.bytes c.in_ok-push_str-3.ensures.bytes c.in_ok-push_str-4.ensures.bytes
