use Rattle.std.proofs.Common.{◌≡◌, ◌+◌, List, sym, subst, arith}
use Rattle.ctw_script.specs.declared.event.Event.{Event}
use Rattle.ctw_semantics.specs.Stores.{Storage}
use Rattle.ctw_semantics.specs.Steps.{step, turn}
use Rattle.ctw_step.specs.declared.running.Stepped.{Stepped}
use Rattle.ctw_step.specs.Shown.{Shown}
use Rattle.ctw_link.specs.Linked.{code_in}
use Rattle.ctw_step.specs.SetInstances.{instances}
use Rattle.ctw_step.specs.Told.{Tells, KeepsAtEnd}
use Rattle.ctw_step.specs.Machine.{StaysSound}
use Rattle.ctw_step.specs.Turning.{Came, GoesOn}
use Rattle.ctw_step.proofs.TurnLaws.{came_start, came_next, came_on, came_ended, came_trapped}
use Rattle.ctw_step.proofs.ShortLaws.{came_then}
use Rattle.ctw_step.proofs.turning.turn_steps.Goals as goal

pub steps-init : goal.steps-init
steps-init c = (
  (λ shape last a0 st. subst (λ (l : List Event). Came c.args.set.now shape last 0 c.args.store.now.storage a0 c.args.events.now.items c.args.store.now.storage c.args.act.now l) (sym c.make_room.ensures.items) (came_start c.args.set.now shape last c.args.store.now.storage c.args.act.now a0 c.args.events.now.items st)),
  c.requires,
  omega arith,
  (let r = c.make_room.ensures.room c.if-not-make_room.false in omega (arith, r)),
  λ mem page h. h,
)

pub steps-preserved : goal.steps-preserved
steps-preserved c =
    let i = c.steps.invariant in
    let r = c.step_shortly-steps.ensures.on in
    let sound = subst (StaysSound c.args.set.now c.step.new.store.storage c.step.new.act r.shape r.last) c.in-Ok-Went.field-0-is (c.in-Ok-Went.ensures.sound r.shape r.last r.activation r.standing) in (
      (λ shape last a0 st.
          let x0 = i.0 shape last a0 st in
          let x = came_then c.args.set.now shape last c.steps.steps c.step_shortly-steps.result c.args.store.now.storage c.steps.store.storage c.steps.store.storage c.steps.act c.step_shortly-steps.new.act a0 c.args.events.now.items c.steps.events.items c.steps.events.items x0 (c.step_shortly-steps.ensures.came c.steps.events.items shape last x0.to x0.standing) in
          let h = subst (λ (r : Stepped). Tells (code_in c.args.set.now) c.step.new.store.storage c.step.new.act r (step (instances c.args.set.now) c.steps.store.storage x.to).answer (step (instances c.args.set.now) c.steps.store.storage x.to).event) c.in-Ok-Went.field-0-is (c.in-Ok-Went.ensures.does shape last x.to x.standing) in
          came_next c.args.set.now shape last (c.steps.steps + c.step_shortly-steps.result) c.args.store.now.storage c.steps.store.storage c.step.new.store.storage c.step_shortly-steps.new.act c.step.new.act a0 c.args.events.now.items c.steps.events.items c.note.new.events.items c.in-Ok-Went.event x h c.note.ensures.items),
      record { shape = r.shape; last = r.last; activation = sound.0; standing = sound.1 },
      (let l = c.steps-test.true in let k = c.step_shortly-steps.ensures.few in omega (arith, l, k)),
      (let l = c.steps-test.true in let k = c.step_shortly-steps.ensures.few in let a = i.3 in let b = c.note.ensures.length in let d = c.note.ensures.capacity in omega (arith, l, k, a, b, d)),
      λ mem page h. c.step.ensures.made mem page (i.4 mem page h),
    )

pub returns-in-Ok-Ended-clause-does : goal.returns-in-Ok-Ended-clause-does
returns-in-Ok-Ended-clause-does c = λ shape last a0 st.
    let i = c.steps.invariant in
    let x0 = i.0 shape last a0 st in
    let x = came_then c.args.set.now shape last c.steps.steps c.step_shortly-steps.result c.args.store.now.storage c.steps.store.storage c.steps.store.storage c.steps.act c.step_shortly-steps.new.act a0 c.args.events.now.items c.steps.events.items c.steps.events.items x0 (c.step_shortly-steps.ensures.came c.steps.events.items shape last x0.to x0.standing) in
    let h = subst (λ (r : Stepped). Tells (code_in c.args.set.now) c.step.new.store.storage c.step.new.act r (step (instances c.args.set.now) c.steps.store.storage x.to).answer (step (instances c.args.set.now) c.steps.store.storage x.to).event) c.in-Ok-Ended.field-0-is (c.in-Ok-Ended.ensures.does shape last x.to x.standing) in
    let k = subst (KeepsAtEnd c.steps.store.storage c.step.new.store.storage) c.in-Ok-Ended.field-0-is c.in-Ok-Ended.ensures.ends in
    came_ended c.args.set.now shape last c.args.n (c.steps.steps + c.step_shortly-steps.result) c.args.store.now.storage c.steps.store.storage c.step.new.store.storage c.step_shortly-steps.new.act c.step.new.act a0 c.args.events.now.items c.steps.events.items c.note-in-Ok-Ended.new.events.items c.in-Ok-Ended.value c.in-Ok-Ended.event (let l = c.steps-test.true in let f = c.step_shortly-steps.ensures.few in omega (arith, l, f)) x h k c.note-in-Ok-Ended.ensures.items

pub returns-in-Ok-Trapped-clause-does : goal.returns-in-Ok-Trapped-clause-does
returns-in-Ok-Trapped-clause-does c = λ shape last a0 st.
    let i = c.steps.invariant in
    let x0 = i.0 shape last a0 st in
    let x = came_then c.args.set.now shape last c.steps.steps c.step_shortly-steps.result c.args.store.now.storage c.steps.store.storage c.steps.store.storage c.steps.act c.step_shortly-steps.new.act a0 c.args.events.now.items c.steps.events.items c.steps.events.items x0 (c.step_shortly-steps.ensures.came c.steps.events.items shape last x0.to x0.standing) in
    let h = subst (λ (r : Stepped). Tells (code_in c.args.set.now) c.step.new.store.storage c.step.new.act r (step (instances c.args.set.now) c.steps.store.storage x.to).answer (step (instances c.args.set.now) c.steps.store.storage x.to).event) c.in-Ok-Trapped.field-0-is (c.in-Ok-Trapped.ensures.does shape last x.to x.standing) in
    let k = subst (KeepsAtEnd c.steps.store.storage c.step.new.store.storage) c.in-Ok-Trapped.field-0-is c.in-Ok-Trapped.ensures.ends in
    came_trapped c.args.set.now shape last c.args.n (c.steps.steps + c.step_shortly-steps.result) c.args.store.now.storage c.steps.store.storage c.step.new.store.storage c.step_shortly-steps.new.act c.step.new.act a0 c.args.events.now.items c.steps.events.items c.note-in-Ok-Trapped.new.events.items c.in-Ok-Trapped.code c.in-Ok-Trapped.event (let l = c.steps-test.true in let f = c.step_shortly-steps.ensures.few in omega (arith, l, f)) x h k c.note-in-Ok-Trapped.ensures.items

pub returns-in-Err-clause-does : goal.returns-in-Err-clause-does
returns-in-Err-clause-does c = λ shape last a0 st.
    let i = c.steps.invariant in
    let x0 = i.0 shape last a0 st in
    let x = came_then c.args.set.now shape last c.steps.steps c.step_shortly-steps.result c.args.store.now.storage c.steps.store.storage c.steps.store.storage c.steps.act c.step_shortly-steps.new.act a0 c.args.events.now.items c.steps.events.items c.steps.events.items x0 (c.step_shortly-steps.ensures.came c.steps.events.items shape last x0.to x0.standing) in
    let g = came_on c.args.set.now shape last (c.steps.steps + c.step_shortly-steps.result) c.args.store.now.storage c.steps.store.storage c.step_shortly-steps.new.act a0 c.args.events.now.items c.steps.events.items x in
    let k = c.in-Err.ensures.kept in (
      (let l = c.steps-test.true in let f = c.step_shortly-steps.ensures.few in omega (arith, l, f)),
      subst (λ (d : Shown). GoesOn c.args.set.now shape last (turn (c.steps.steps + c.step_shortly-steps.result) (instances c.args.set.now) c.args.store.now.storage a0) (c.steps.steps + c.step_shortly-steps.result) c.step.new.store.storage d c.args.events.now.items c.steps.events.items) (sym k.0)
          (subst (λ (s : Storage). GoesOn c.args.set.now shape last (turn (c.steps.steps + c.step_shortly-steps.result) (instances c.args.set.now) c.args.store.now.storage a0) (c.steps.steps + c.step_shortly-steps.result) s c.step_shortly-steps.new.act c.args.events.now.items c.steps.events.items) (sym k.1) g),
    )

pub returns-clause-does : goal.returns-clause-does
returns-clause-does c = λ shape last a0 st.
    let i = c.steps.invariant in
    let l = i.2 in
    let f = c.steps-test.false in
    let e : c.steps.steps ≡ c.args.n = omega (arith, l, f) in
    subst (λ n. GoesOn c.args.set.now shape last (turn n (instances c.args.set.now) c.args.store.now.storage a0) n c.steps.store.storage c.steps.act c.args.events.now.items c.steps.events.items) e (came_on c.args.set.now shape last c.steps.steps c.args.store.now.storage c.steps.store.storage c.steps.act a0 c.args.events.now.items c.steps.events.items (i.0 shape last a0 st))
