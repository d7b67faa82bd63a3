use Rattle.std.proofs.Common.{◌<◌, List, ℕ, length, slice_get, refl, sym, ap, ◌∙◌, subst}
use Rattle.ctw_step.specs.Shown.{shown}
use Rattle.ctw_step.specs.SetInstances.{instances}
use Rattle.ctw_step.specs.Short.{CanTake, Taken}
use Rattle.ctw_step.proofs.Homes.{func_below}
use Rattle.ctw_step.proofs.StepLaws.{running_there, running_found}
use Rattle.ctw_step.proofs.ShortLaws.{runs_in, inside_here, can_take, taken_tells}
use Rattle.ctw_step.proofs.one_step.step_control.Goals as goal

pub current-func-requires : goal.current-func-requires
current-func-requires c = running_there c.args.set.now c.args.store.now.storage (shown c.args.act.now) c.requires.shape c.requires.last c.requires.activation c.requires.standing

pub body_of-body-requires : goal.body_of-body-requires
body_of-body-requires c =
    let r = c.requires in
    let x = running_found c.args.set.now c.args.store.now.storage (shown c.args.act.now) r.shape r.last r.activation r.standing in
    let some = running_there c.args.set.now c.args.store.now.storage (shown c.args.act.now) r.shape r.last r.activation r.standing in
    let f = runs_in c.args.set.now c.args.store.now.storage (shown c.args.act.now) (shown c.args.act.now) c.current-func.result refl some c.current-func.ensures r.shape r.last r.activation r.standing in
    func_below c.args.set.now c.current-func.result x.0 (ap (slice_get (instances c.args.set.now)) (sym f) ∙ x.1)

pub blocks_of-blocks-requires : goal.blocks_of-blocks-requires
blocks_of-blocks-requires c =
    let r = c.requires in
    let x = running_found c.args.set.now c.args.store.now.storage (shown c.args.act.now) r.shape r.last r.activation r.standing in
    let some = running_there c.args.set.now c.args.store.now.storage (shown c.args.act.now) r.shape r.last r.activation r.standing in
    let f = runs_in c.args.set.now c.args.store.now.storage (shown c.args.act.now) (shown c.args.act.now) c.current-func.result refl some c.current-func.ensures r.shape r.last r.activation r.standing in
    func_below c.args.set.now c.current-func.result x.0 (ap (slice_get (instances c.args.set.now)) (sym f) ∙ x.1)

pub take_control-requires-clause-inside : goal.take_control-requires-clause-inside
take_control-requires-clause-inside c =
    let r = c.requires in
    let some = running_there c.args.set.now c.args.store.now.storage (shown c.args.act.now) r.shape r.last r.activation r.standing in
    let f = runs_in c.args.set.now c.args.store.now.storage (shown c.args.act.now) (shown c.args.act.now) c.current-func.result refl some c.current-func.ensures r.shape r.last r.activation r.standing in
    subst (λ (b : List ℕ). c.args.act.now.at < length b) (sym c.body_of-body.ensures) (inside_here c.args.set.now c.args.store.now.storage r.shape r.last (shown c.args.act.now) r.activation c.current-func.result r.standing f)

pub take_control-requires-clause-runs : goal.take_control-requires-clause-runs
take_control-requires-clause-runs c =
    let r = c.requires in
    let some = running_there c.args.set.now c.args.store.now.storage (shown c.args.act.now) r.shape r.last r.activation r.standing in
    let f = runs_in c.args.set.now c.args.store.now.storage (shown c.args.act.now) (shown c.args.act.now) c.current-func.result refl some c.current-func.ensures r.shape r.last r.activation r.standing in
    subst (λ (b : List ℕ). CanTake b (shown c.args.act.now)) (sym c.body_of-body.ensures) (can_take c.args.set.now c.args.store.now.storage r.shape r.last (shown c.args.act.now) r.activation c.current-func.result r.standing f)

pub returns-in-Some-clause-does : goal.returns-in-Some-clause-does
returns-in-Some-clause-does c = λ shape last a st.
    let some = running_there c.args.set.now c.args.store.now.storage (shown c.args.act.now) shape last a st in
    let f = runs_in c.args.set.now c.args.store.now.storage (shown c.args.act.now) (shown c.args.act.now) c.current-func.result refl some c.current-func.ensures shape last a st in
    let p = subst (λ (b : List ℕ). Taken b (shown c.args.act.now) c.in-Some.told (shown c.take_control.new.act)) c.body_of-body.ensures c.in-Some.ensures.taken in
    taken_tells c.args.set.now c.args.store.now.storage shape last (shown c.args.act.now) a c.current-func.result st f (shown c.take_control.new.act) c.in-Some.told c.weigh.result p c.weigh.ensures
