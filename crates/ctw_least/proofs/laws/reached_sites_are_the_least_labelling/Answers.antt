use Rattle.ctw_least.proofs.LeastLaws.{infer_ok, infer_flow}
use Rattle.ctw_least.proofs.laws.reached_sites_are_the_least_labelling.Goals as goal

pub returns-clause-fits : goal.returns-clause-fits
returns-clause-fits c = λ m pl v p r k marks g starts goals graph s e seen reached none. infer_ok m pl v p r k marks g starts goals graph s e seen reached none

pub returns-clause-flow : goal.returns-clause-flow
returns-clause-flow c = λ m pl v p r k marks g starts goals graph s e path h. infer_flow m pl v p r k marks g starts goals graph s e path h
