use Rattle.std.proofs.Common.{◌∙◌, sym, ap}
use Rattle.ctw_module.specs.Trees.{view_module}
use Rattle.ctw_write.specs.Canon.{canon}
use Rattle.ctw_labels.specs.Points.{Points}
use Rattle.ctw_labels.specs.Links.{at_tag}
use Rattle.ctw_labels.specs.Placed.{placed}
use Rattle.ctw_labels.specs.Fits.{label_at}
use Rattle.ctwasm_top.proofs.working.place_module.Goals as goal

pub returns-clause-told : goal.returns-clause-told
returns-clause-told c = λ plain.
    let m = view_module c.args.m.now in
    let l = c.in-Ok.labelled in
    record {
      marks = l.marks;
      labels = l.labels;
      found = c.in-Ok.ensures.told.found;
      bytes = c.in_ok-bytes.ensures.bytes ∙ ap (λ (p : Points). canon (placed (at_tag (label_at l.labels)) m p)) c.points.ensures;
      sites = c.count-sites.ensures.count ∙ sym c.in-Ok.ensures.labelling.labels;
      secret = c.count_secrets-secret.ensures;
    }
