use Rattle.ctw_module.proofs.SpelledTrees.{tree_is, uses_are, code_spelled}
use Rattle.ctw_module.proofs.laws.tree_of_a_file.Goals as goal

pub returns-clause-whole : goal.returns-clause-whole
returns-clause-whole c bytes m s = tree_is bytes m s

pub returns-clause-uses : goal.returns-clause-uses
returns-clause-uses c bytes m s = uses_are bytes m s

pub returns-clause-code : goal.returns-clause-code
returns-clause-code c bytes m k f s e = code_spelled bytes m k f s e
