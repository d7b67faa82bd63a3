use Rattle.std.proofs.Common.{ap₂, ◌∙◌}
use Rattle.ctw_ops.specs.Equal.{same_function_type}
use Rattle.ctw_step.proofs.indirect.has_type.Goals as goal

pub returns : goal.returns
returns c = λ at fn callee t p e g. c.is_same.ensures ∙ ap₂ same_function_type (c.type_in-got.ensures callee g) (c.entry_in-wanted.ensures at fn t p e)
