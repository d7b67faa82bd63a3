use Rattle.ctw_labels.specs.Points.{no_points}
use Rattle.ctw_labels.proofs.Right.{links_right, none_kept}
use Rattle.ctw_labels.proofs.laws.the_link_table_is_right.Goals as goal

pub returns-clause-unreleased : goal.returns-clause-unreleased
returns-clause-unreleased c = λ m p v l. links_right m p v no_points tt (none_kept m) l

pub returns-clause-released : goal.returns-clause-released
returns-clause-released c = λ m pl v p r k l. links_right m pl v p r k l
