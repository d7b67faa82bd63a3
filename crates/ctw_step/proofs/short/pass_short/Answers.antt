use Rattle.std.proofs.Common.{◌≤◌, ◌<◌, ℕ, List, length, slice_get, refl, sym, ap, ◌∙◌, subst, arith}
use Rattle.ctw_ops.specs.Limits.{most_weight}
use Rattle.ctw_step.specs.Shown.{shown}
use Rattle.ctw_step.specs.SetInstances.{instances}
use Rattle.ctw_step.specs.Told.{words}
use Rattle.ctw_step.specs.Short.{CanPass, Passed}
use Rattle.ctw_step.proofs.Homes.{func_below}
use Rattle.ctw_step.proofs.StepLaws.{running_there, running_found}
use Rattle.ctw_step.proofs.TurnLaws.{came_start}
use Rattle.ctw_step.proofs.ShortLaws.{runs_in, inside_here, can_pass, light_here, came_more, can_more}
use Rattle.ctw_step.proofs.short.pass_short.Goals as goal

pub current-func-requires : goal.current-func-requires
current-func-requires c = running_there c.args.set.now c.args.store.now.storage (shown c.args.act.now) c.requires.shape c.requires.last c.requires.activation c.requires.standing

pub body_of-body-requires : goal.body_of-body-requires
body_of-body-requires c =
    let r = c.requires in
    let x = running_found c.args.set.now c.args.store.now.storage (shown c.args.act.now) r.shape r.last r.activation r.standing in
    let some = running_there c.args.set.now c.args.store.now.storage (shown c.args.act.now) r.shape r.last r.activation r.standing in
    let f = runs_in c.args.set.now c.args.store.now.storage (shown c.args.act.now) (shown c.args.act.now) c.current-func.result refl some c.current-func.ensures r.shape r.last r.activation r.standing in
    func_below c.args.set.now c.current-func.result x.0 (ap (slice_get (instances c.args.set.now)) (sym f) ∙ x.1)

pub words_left-requires : goal.words_left-requires
words_left-requires c = light_here c.args.set.now c.args.store.now.storage (shown c.args.act.now) c.requires.shape c.requires.last c.requires.activation c.requires.standing

pub steps-init : goal.steps-init
steps-init c = (
  (λ before shape last a0 st. came_start c.args.set.now shape last c.args.store.now.storage (shown c.args.act.now) a0 before st),
  c.requires,
  omega arith,
  (let m = c.at_most-most.ensures.other in let w = c.words_left.ensures in omega (arith, m, w)),
  refl,
)

pub pass_one-requires-clause-inside : goal.pass_one-requires-clause-inside
pass_one-requires-clause-inside c =
    let i = c.steps.invariant in
    let r = i.1 in
    let q = c.requires in
    let some = running_there c.args.set.now c.args.store.now.storage (shown c.args.act.now) q.shape q.last q.activation q.standing in
    let f = runs_in c.args.set.now c.args.store.now.storage (shown c.args.act.now) (shown c.steps.act) c.current-func.result i.4 some c.current-func.ensures r.shape r.last r.activation r.standing in
    subst (λ (b : List ℕ). c.steps.act.at < length b) (sym (c.code-code.ensures.bytes ∙ c.body_of-body.ensures)) (inside_here c.args.set.now c.args.store.now.storage r.shape r.last (shown c.steps.act) r.activation c.current-func.result r.standing f)

pub pass_one-requires-clause-runs : goal.pass_one-requires-clause-runs
pass_one-requires-clause-runs c =
    let i = c.steps.invariant in
    let r = i.1 in
    let q = c.requires in
    let some = running_there c.args.set.now c.args.store.now.storage (shown c.args.act.now) q.shape q.last q.activation q.standing in
    let f = runs_in c.args.set.now c.args.store.now.storage (shown c.args.act.now) (shown c.steps.act) c.current-func.result i.4 some c.current-func.ensures r.shape r.last r.activation r.standing in
    subst (λ (b : List ℕ). CanPass b (shown c.steps.act)) (sym (c.code-code.ensures.bytes ∙ c.body_of-body.ensures)) (can_pass c.args.set.now c.args.store.now.storage r.shape r.last (shown c.steps.act) r.activation c.current-func.result r.standing f)

pub steps-preserved : goal.steps-preserved
steps-preserved c =
    let i = c.steps.invariant in
    let q = c.requires in
    let some = running_there c.args.set.now c.args.store.now.storage (shown c.args.act.now) q.shape q.last q.activation q.standing in
    let f = runs_in c.args.set.now c.args.store.now.storage (shown c.args.act.now) (shown c.steps.act) c.current-func.result i.4 some c.current-func.ensures in
    let p = subst (λ (b : List ℕ). Passed b (shown c.steps.act) (shown c.pass_one.new.act)) (c.code-code.ensures.bytes ∙ c.body_of-body.ensures) (c.pass_one.ensures.passed c.if-not-pass_one.false) in
    let w = p.passes.words in
    let t = c.steps-test.true in
    let room = i.3 in
    let l : words (shown c.pass_one.new.act) ≤ most_weight = omega (arith, w, t, room) in (
      came_more c.args.set.now c.args.store.now.storage (shown c.steps.act) (shown c.pass_one.new.act) c.current-func.result f p l c.steps.steps (shown c.args.act.now) i.0,
      can_more c.args.set.now c.args.store.now.storage (shown c.steps.act) (shown c.pass_one.new.act) c.current-func.result f p l i.1,
      omega (arith, t),
      omega (arith, w, t, room),
      p.passes.frames ∙ i.4,
    )
