use Rattle.std.proofs.Common.{slice_get, sym, ap, ◌∙◌}
use Rattle.ctw_flat.specs.Instructions.{targets_in}
use Rattle.ctw_step.proofs.TableTargets.{named, unnamed}
use Rattle.ctw_step.proofs.control.target_of.Goals as goal

pub returns-in-Some : goal.returns-in-Some
returns-in-Some c = λ k e.
    named (targets_in c.args.count c.args.targets.now) c.args.otherwise c.args.index c.in-Some.depth k (sym c.in-Some.is ∙ c.target.ensures ∙ ap (λ l. slice_get l c.args.index) c.new.ensures.targets) e

pub returns-in-None : goal.returns-in-None
returns-in-None c = λ k e.
    unnamed (targets_in c.args.count c.args.targets.now) c.args.otherwise c.args.index k (sym c.in-None.is ∙ c.target.ensures ∙ ap (λ l. slice_get l c.args.index) c.new.ensures.targets) e
