use Rattle.std.proofs.Common.{ap, ◌∙◌}
use Rattle.ctw_step.specs.Shown.{shown}
use Rattle.ctw_step.specs.Told.{with_operands}
use Rattle.ctw_step.proofs.Numbers.{set_last}
use Rattle.ctw_step.proofs.words.set_top.Goals as goal

pub returns-clause-set : goal.returns-clause-set
returns-clause-set c = λ front x e.
    ap (λ l. with_operands (shown c.args.act.now) l c.args.next) (set_last c.args.act.now.operands.items front x c.args.number c.len-last.result e (c.len-last.ensures ∙ c.args.act.now.operands.ok.0))
