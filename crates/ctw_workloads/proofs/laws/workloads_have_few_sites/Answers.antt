use Rattle.ctw_workloads.proofs.FewSites.{sites_few}
use Rattle.ctw_workloads.proofs.laws.workloads_have_few_sites.Goals as goal

pub returns : goal.returns
returns c q seed size le = sites_few q seed size le
