use Rattle.ctw_stack.proofs.TagLaws.{tag_law}
use Rattle.ctw_stack.proofs.stack.Stack.new.Goals as goal

pub returns-clause-tags : goal.returns-clause-tags
returns-clause-tags g c = λ labels. tag_law _
