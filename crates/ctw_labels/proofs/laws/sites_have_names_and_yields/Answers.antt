use Rattle.ctw_labels.proofs.NameLaws.{one_place}
use Rattle.ctw_labels.proofs.SiteLaws.{sites_same, sites_yield}
use Rattle.ctw_labels.proofs.OrderLaws.{orderly_by_yields}
use Rattle.ctw_labels.proofs.laws.sites_have_names_and_yields.Goals as goal

pub returns-clause-name : goal.returns-clause-name
returns-clause-name c = λ m j k s t e f n. one_place m j k s t e f n

pub returns-clause-points : goal.returns-clause-points
returns-clause-points c = λ m pl p. sites_same m pl p

pub returns-clause-yields : goal.returns-clause-yields
returns-clause-yields c = λ m pl p. sites_yield m pl p

pub returns-clause-orderly : goal.returns-clause-orderly
returns-clause-orderly c = λ m pl p l. orderly_by_yields m pl p l
