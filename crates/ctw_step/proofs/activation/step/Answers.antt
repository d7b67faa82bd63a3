use Rattle.std.proofs.Common.{sym, subst}
use Rattle.ctw_semantics.specs.Steps.{step as step_of}
use Rattle.ctw_semantics.specs.Erased.{erase_functions, erase_storage, erase_activation}
use Rattle.ctw_step.specs.Shown.{Shown, shown}
use Rattle.ctw_link.specs.Linked.{code_in}
use Rattle.ctw_step.specs.SetInstances.{instances}
use Rattle.ctw_step.specs.Told.{Tells, KeepsAtEnd}
use Rattle.ctw_step.specs.Stepping.{Standing}
use Rattle.ctw_step.specs.Machine.{StaysSound, SeenAs, ErasedAs}
use Rattle.ctw_step.proofs.Room.{on_ok, on_both}
use Rattle.ctw_step.proofs.StepClauses.{stays_sound, isolated, erased}
use Rattle.ctw_step.proofs.activation.step.Goals as goal

pub returns-clause-sound : goal.returns-clause-sound
returns-clause-sound c = λ shape last a st.
    let st' = subst (λ (d : Shown). Standing c.args.set.now c.args.store.now.storage d shape last a) (sym c.act.view_is) st in
    let told = c.step_running.ensures.does shape last a st' in
    on_both c.step_running.result (λ r. Tells (code_in c.args.set.now) c.step_running.new.store.storage (shown c.step_running.new.act) r (step_of (instances c.args.set.now) c.args.store.now.storage a).answer (step_of (instances c.args.set.now) c.args.store.now.storage a).event) (KeepsAtEnd c.args.store.now.storage c.step_running.new.store.storage) (StaysSound c.args.set.now c.step_running.new.store.storage (shown c.step_running.new.act) shape last) told c.step_running.ensures.ends (stays_sound c.args.set.now c.args.store.now.storage c.step_running.new.store.storage (shown c.act.inside.running) (shown c.step_running.new.act) shape last a st')

pub returns-clause-isolated : goal.returns-clause-isolated
returns-clause-isolated c = λ shape last a st t b g q.
    let st' = subst (λ (d : Shown). Standing c.args.set.now c.args.store.now.storage d shape last a) (sym c.act.view_is) st in
    let told = c.step_running.ensures.does shape last a st' in
    on_ok c.step_running.result (λ r. Tells (code_in c.args.set.now) c.step_running.new.store.storage (shown c.step_running.new.act) r (step_of (instances c.args.set.now) c.args.store.now.storage a).answer (step_of (instances c.args.set.now) c.args.store.now.storage a).event) (λ r. SeenAs c.args.set.now c.step_running.new.store.storage (shown c.step_running.new.act) r (step_of (instances c.args.set.now) t b)) told (λ r h. isolated c.args.set.now c.args.store.now.storage c.step_running.new.store.storage (shown c.act.inside.running) (shown c.step_running.new.act) shape last a st' r t b h g q)

pub returns-clause-erased : goal.returns-clause-erased
returns-clause-erased c = λ shape last a st.
    let st' = subst (λ (d : Shown). Standing c.args.set.now c.args.store.now.storage d shape last a) (sym c.act.view_is) st in
    let told = c.step_running.ensures.does shape last a st' in
    on_ok c.step_running.result (λ r. Tells (code_in c.args.set.now) c.step_running.new.store.storage (shown c.step_running.new.act) r (step_of (instances c.args.set.now) c.args.store.now.storage a).answer (step_of (instances c.args.set.now) c.args.store.now.storage a).event) (λ r. ErasedAs c.args.set.now c.step_running.new.store.storage (shown c.step_running.new.act) r (step_of (erase_functions (instances c.args.set.now)) (erase_storage c.args.store.now.storage) (erase_activation (instances c.args.set.now) a))) told (erased c.args.set.now c.args.store.now.storage c.step_running.new.store.storage (shown c.act.inside.running) (shown c.step_running.new.act) shape last a st')
