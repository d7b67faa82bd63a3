use Rattle.ctw_form.proofs.Fitted.{module_formed}
use Rattle.ctw_form.proofs.laws.spelled_modules_are_formed.Goals as goal

pub returns : goal.returns
returns c bytes m s = module_formed bytes m s
