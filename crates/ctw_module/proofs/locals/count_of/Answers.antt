use Rattle.std.proofs.Common.{sym, ap, ◌∙◌, rules}
use Rattle.std.specs.Option.{option_copied}
use Rattle.ctw_form.proofs.Runs.{run_last, run_none}
use Rattle.ctw_module.proofs.locals.count_of.Goals as goal

pub returns-in-Some : goal.returns-in-Some
returns-in-Some c = run_last c.args.runs.now c.in-Some.run'.now (search rules)

pub returns-in-None : goal.returns-in-None
returns-in-None c = run_none c.args.runs.now (sym c.last.ensures.value ∙ ap option_copied c.in-None.is)
