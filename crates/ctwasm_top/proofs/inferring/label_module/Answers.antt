use Rattle.std.proofs.Common.{◌∙◌, ap}
use Rattle.ctw_module.specs.Trees.{view_module}
use Rattle.ctw_write.specs.Canon.{canon}
use Rattle.ctw_labels.specs.Points.{Points}
use Rattle.ctw_labels.specs.Links.{at_tag}
use Rattle.ctw_labels.specs.Placed.{placed}
use Rattle.ctw_labels.specs.Fits.{label_at}
use Rattle.ctwasm_top.proofs.Labelling.{module_placed}
use Rattle.ctwasm_top.proofs.inferring.label_module.Goals as goal

pub returns-clause-told : goal.returns-clause-told
returns-clause-told c =
    let m = view_module c.args.m.now in
    let l = c.in_ok-labelled.labelled in
    module_placed m c.args.text.now l.marks l.labels c.done.result c.in_ok-bytes.bytes.items c.in_ok-labelled.ensures.told c.done.ensures
    (c.in_ok-bytes.ensures.bytes ∙ ap (λ (p : Points). canon (placed (at_tag (label_at l.labels)) m p)) c.points.ensures)
