use Rattle.ctw_write.proofs.KeptModules.{module_limited}
use Rattle.ctw_write.proofs.laws.spelled_modules_keep_limits.Goals as goal

pub returns : goal.returns
returns c bytes m s = module_limited bytes m s
