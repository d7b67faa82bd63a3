use Rattle.std.proofs.Common.{refl}
use Rattle.ctw_gen.specs.Workload.{workload_module}
use Rattle.ctw_gen.proofs.Typed.{module_valid}
use Rattle.ctw_workloads.proofs.UnderProfiles.{valid_under}
use Rattle.ctw_workloads.proofs.laws.workloads_are_valid_under_profiles.Goals as goal

pub returns : goal.returns
returns c q seed size le = valid_under q (workload_module seed size) refl (module_valid seed size le)
