use Rattle.ctw_form.proofs.FileForms.{file_is, module_is, one_module}
use Rattle.ctw_form.proofs.laws.one_module.Goals as goal

pub returns-clause-file : goal.returns-clause-file
returns-clause-file c bytes file = file_is bytes file

pub returns-clause-read : goal.returns-clause-read
returns-clause-read c bytes m = module_is bytes m

pub returns-clause-one : goal.returns-clause-one
returns-clause-one c bytes m n s t = one_module bytes m n s t
