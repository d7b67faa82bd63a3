use Rattle.ctw_stack.proofs.BodyLaws.{run_law}
use Rattle.ctw_stack.proofs.laws.accepts_exactly_typed_bodies.Goals as goal

pub returns : goal.returns
returns g c = λ same eq C own code. run_law same eq C own code
