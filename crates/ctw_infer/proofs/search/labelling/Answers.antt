use Rattle.std.proofs.Common.{length}
use Rattle.ctw_infer.proofs.Labels.{labels_begin}
use Rattle.ctw_infer.proofs.search.labelling.Goals as goal

pub sites-init : goal.sites-init
sites-init c = labels_begin c.args.reached.now c.in_ok-labels.labels (length c.args.s.now) c.in_ok-labels.ensures c.requires
