use Rattle.ctw_infer.proofs.Labels.{LabelsGiven}
use Rattle.ctw_infer.proofs.search.labelling.Given as goal

abbrev pub invariant-sites : goal.invariant-sites
invariant-sites l = LabelsGiven l.reached l.labels l.site
