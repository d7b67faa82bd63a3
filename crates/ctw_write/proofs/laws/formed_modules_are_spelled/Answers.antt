use Rattle.ctw_write.proofs.FormedModules.{formed_spelled, only_formed}
use Rattle.ctw_write.proofs.laws.formed_modules_are_spelled.Goals as goal

pub returns-clause-spelled : goal.returns-clause-spelled
returns-clause-spelled c m f h = formed_spelled m f h

pub returns-clause-only : goal.returns-clause-only
returns-clause-only c m n f h s = only_formed m n f h s
