use Rattle.std.proofs.Common.{◌∙◌, sym}
use Rattle.ctw_step.proofs.ShortForms.{silent}
use Rattle.ctw_step.proofs.short.pass_numeric.Goals as goal

pub pass_binary-requires-clause-silent : goal.pass_binary-requires-clause-silent
pass_binary-requires-clause-silent c = silent c.args.op (sym c.leaks.ensures ∙ c.if-not-leaks.true)
