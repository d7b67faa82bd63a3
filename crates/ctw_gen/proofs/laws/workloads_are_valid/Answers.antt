use Rattle.ctw_gen.proofs.Typed.{module_valid}
use Rattle.ctw_gen.proofs.laws.workloads_are_valid.Goals as goal

pub returns : goal.returns
returns c seed size le = module_valid seed size le
