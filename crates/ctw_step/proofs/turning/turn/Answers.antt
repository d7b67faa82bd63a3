use Rattle.std.proofs.Common.{◌≤◌}
use Rattle.ctw_semantics.specs.Steps.{turn}
use Rattle.ctw_semantics.specs.Sound.{SoundStorage}
use Rattle.ctw_semantics.specs.Erased.{erase_functions, erase_storage, erase_activation}
use Rattle.ctw_step.specs.SetInstances.{instances}
use Rattle.ctw_step.specs.Turning.{GoesOn, TurnTells, TurnSeenAs, TurnErasedAs}
use Rattle.ctw_step.proofs.Room.{on_match, on_each}
use Rattle.ctw_step.proofs.TurnClauses.{turn_stays, turn_isolated, turn_erases}
use Rattle.ctw_step.proofs.turning.turn.Goals as goal

pub returns-clause-sound : goal.returns-clause-sound
returns-clause-sound c = λ shape last a st.
    on_each c.turn_steps.result (λ r. TurnTells c.args.set.now shape last c.args.n (turn c.args.n (instances c.args.set.now) c.args.store.now.storage a) r c.turn_steps.new.store.storage c.turn_steps.new.act c.args.events.now.items c.turn_steps.new.events.items) (λ e. (e.steps ≤ c.args.n) × GoesOn c.args.set.now shape last (turn e.steps (instances c.args.set.now) c.args.store.now.storage a) e.steps c.turn_steps.new.store.storage c.turn_steps.new.act c.args.events.now.items c.turn_steps.new.events.items) (SoundStorage shape c.turn_steps.new.store.storage) (c.turn_steps.ensures.does shape last a st) (turn_stays c.args.set.now c.args.n c.args.store.now.storage c.turn_steps.new.store.storage c.args.act.now c.turn_steps.new.act c.args.events.now.items c.turn_steps.new.events.items shape last a st) (λ e g. g.1.standing.storage)

pub returns-clause-isolated : goal.returns-clause-isolated
returns-clause-isolated c = λ shape last a st t b g q.
    on_match c.turn_steps.result (λ r. TurnTells c.args.set.now shape last c.args.n (turn c.args.n (instances c.args.set.now) c.args.store.now.storage a) r c.turn_steps.new.store.storage c.turn_steps.new.act c.args.events.now.items c.turn_steps.new.events.items) (λ e. (e.steps ≤ c.args.n) × GoesOn c.args.set.now shape last (turn e.steps (instances c.args.set.now) c.args.store.now.storage a) e.steps c.turn_steps.new.store.storage c.turn_steps.new.act c.args.events.now.items c.turn_steps.new.events.items) (λ r. TurnSeenAs c.args.set.now c.args.n r c.turn_steps.new.store.storage c.turn_steps.new.act c.args.events.now.items c.turn_steps.new.events.items (turn c.args.n (instances c.args.set.now) t b)) (c.turn_steps.ensures.does shape last a st) (λ r h. turn_isolated c.args.set.now c.args.n c.args.store.now.storage c.turn_steps.new.store.storage c.args.act.now c.turn_steps.new.act c.args.events.now.items c.turn_steps.new.events.items shape last a st r t b h g q)

pub returns-clause-erased : goal.returns-clause-erased
returns-clause-erased c = λ shape last a st.
    on_match c.turn_steps.result (λ r. TurnTells c.args.set.now shape last c.args.n (turn c.args.n (instances c.args.set.now) c.args.store.now.storage a) r c.turn_steps.new.store.storage c.turn_steps.new.act c.args.events.now.items c.turn_steps.new.events.items) (λ e. (e.steps ≤ c.args.n) × GoesOn c.args.set.now shape last (turn e.steps (instances c.args.set.now) c.args.store.now.storage a) e.steps c.turn_steps.new.store.storage c.turn_steps.new.act c.args.events.now.items c.turn_steps.new.events.items) (λ r. TurnErasedAs c.args.set.now c.args.n r c.turn_steps.new.store.storage c.turn_steps.new.act c.args.events.now.items c.turn_steps.new.events.items (turn c.args.n (erase_functions (instances c.args.set.now)) (erase_storage c.args.store.now.storage) (erase_activation (instances c.args.set.now) a))) (c.turn_steps.ensures.does shape last a st) (turn_erases c.args.set.now c.args.n c.args.store.now.storage c.turn_steps.new.store.storage c.args.act.now c.turn_steps.new.act c.args.events.now.items c.turn_steps.new.events.items shape last a st)
