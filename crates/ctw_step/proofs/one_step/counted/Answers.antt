use Rattle.std.proofs.Common.{sym, subst}
use Rattle.ctw_semantics.specs.Answers.{Reduced}
use Rattle.ctw_semantics.specs.Machine as Machine
use Rattle.ctw_step.specs.Shown.{shown}
use Rattle.ctw_link.specs.Linked.{code_in}
use Rattle.ctw_step.specs.SetInstances.{instances}
use Rattle.ctw_step.specs.Told.{Tells, with_operands}
use Rattle.ctw_step.proofs.Weights.{weighed, red_is}
use Rattle.ctw_step.proofs.Settling.{kept_at_end}
use Rattle.ctw_step.proofs.one_step.counted.Goals as goal

pub returns-in-Ok-clause-does : goal.returns-in-Ok-clause-does
returns-in-Ok-clause-does c = λ fn h code vs p m.
    subst (λ (x : Reduced). Tells (code_in c.args.set.now) c.reduce.new.store.storage (shown c.reduce.new.act) c.weigh.result x.answer x.event) (sym (red_is (instances c.args.set.now) fn c.args.store.now.storage h code vs p.found))
    (weighed (code_in c.args.set.now) c.reduce.new.store.storage (shown c.reduce.new.act) c.in-Ok.told c.weigh.result (Machine.next (instances c.args.set.now) fn c.args.store.now.storage h code vs) (c.in-Ok.ensures.does fn h code vs p m) c.weigh.ensures)

pub returns-in-Ok-clause-ends : goal.returns-in-Ok-clause-ends
returns-in-Ok-clause-ends c = λ light. kept_at_end c.args.store.now.storage c.reduce.new.store.storage (with_operands (shown c.args.act.now) c.args.act.now.operands.items c.args.at) (shown c.reduce.new.act) c.in-Ok.told c.weigh.result c.in-Ok.ensures.settles c.weigh.ensures light
