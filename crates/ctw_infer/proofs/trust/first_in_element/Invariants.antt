use Rattle.ctw_labels.specs.Points.{has_number}
use Rattle.ctw_infer.proofs.Firsts.{PassesLeft}
use Rattle.ctw_infer.proofs.trust.first_in_element.Given as goal

abbrev pub invariant-functions : goal.invariant-functions
invariant-functions l = PassesLeft (λ f. has_number f l.p.trusted) l.element.functions l.k
