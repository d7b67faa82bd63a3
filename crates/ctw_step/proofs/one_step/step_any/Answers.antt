use Rattle.std.proofs.Common.{◌≡◌, ◌≤◌, ℕ, List, Ok, slice_get, sym, ap, ◌∙◌, subst}
use Rattle.std.specs.Prelude.{IfOk}
use Rattle.ctw_flat.specs.Instructions.{op_of}
use Rattle.ctw_flat.specs.Places.{instr_in}
use Rattle.ctw_semantics.specs.Answers.{Reduced}
use Rattle.ctw_semantics.specs.Machine.{red}
use Rattle.ctw_semantics.specs.Steps.{Stepped}
use Rattle.ctw_link.specs.Sets.{set_of}
use Rattle.ctw_link.specs.Numbers.{owners}
use Rattle.ctw_step.specs.Shown.{shown}
use Rattle.ctw_link.specs.Linked.{code_in}
use Rattle.ctw_step.specs.SetInstances.{instances}
use Rattle.ctw_step.specs.Told.{Meets, Tells, with_operands}
use Rattle.ctw_step.specs.Reducing.{InPart, CanReduce}
use Rattle.ctw_step.specs.Stepping.{FreeBy, HasInstr}
use Rattle.ctw_step.proofs.Room.{last_of}
use Rattle.ctw_step.proofs.Homes.{func_below}
use Rattle.ctw_step.proofs.StepLaws.{first_func, reached, instr_at_spot, spot_at, func_at, step_is, meets_at, can_reduce, bytes_small, running_func, running_there, running_found}
use Rattle.ctw_ops.specs.Limits.{most_weight}
use Rattle.ctw_step.proofs.Weights.{weighs}
use Rattle.ctw_step.proofs.one_step.step_any.Goals as goal

pub current-func-requires : goal.current-func-requires
current-func-requires c = running_there c.args.set.now c.args.store.now.storage (shown c.args.act.now) c.requires.shape c.requires.last c.requires.activation c.requires.standing

pub owner-part-requires : goal.owner-part-requires
owner-part-requires c =
    let fr = last_of c.args.act.now.frames.items (running_there c.args.set.now c.args.store.now.storage (shown c.args.act.now) c.requires.shape c.requires.last c.requires.activation c.requires.standing) in
    let fa : first_func c.requires.activation ≡ c.current-func.result = running_func c.args.set.now c.args.store.now.storage (shown c.args.act.now) c.requires.shape c.requires.last c.requires.activation c.requires.standing fr.0 fr.1 fr.2 ∙ sym (c.current-func.ensures fr.0 fr.1 fr.2) in
    let x = running_found c.args.set.now c.args.store.now.storage (shown c.args.act.now) c.requires.shape c.requires.last c.requires.activation c.requires.standing in
    func_below c.args.set.now c.current-func.result x.0 (ap (slice_get (instances c.args.set.now)) (sym fa) ∙ x.1)

pub body_of-body-requires : goal.body_of-body-requires
body_of-body-requires c =
    let fr = last_of c.args.act.now.frames.items (running_there c.args.set.now c.args.store.now.storage (shown c.args.act.now) c.requires.shape c.requires.last c.requires.activation c.requires.standing) in
    let fa : first_func c.requires.activation ≡ c.current-func.result = running_func c.args.set.now c.args.store.now.storage (shown c.args.act.now) c.requires.shape c.requires.last c.requires.activation c.requires.standing fr.0 fr.1 fr.2 ∙ sym (c.current-func.ensures fr.0 fr.1 fr.2) in
    let x = running_found c.args.set.now c.args.store.now.storage (shown c.args.act.now) c.requires.shape c.requires.last c.requires.activation c.requires.standing in
    func_below c.args.set.now c.current-func.result x.0 (ap (slice_get (instances c.args.set.now)) (sym fa) ∙ x.1)

pub blocks_of-blocks-requires : goal.blocks_of-blocks-requires
blocks_of-blocks-requires c =
    let fr = last_of c.args.act.now.frames.items (running_there c.args.set.now c.args.store.now.storage (shown c.args.act.now) c.requires.shape c.requires.last c.requires.activation c.requires.standing) in
    let fa : first_func c.requires.activation ≡ c.current-func.result = running_func c.args.set.now c.args.store.now.storage (shown c.args.act.now) c.requires.shape c.requires.last c.requires.activation c.requires.standing fr.0 fr.1 fr.2 ∙ sym (c.current-func.ensures fr.0 fr.1 fr.2) in
    let x = running_found c.args.set.now c.args.store.now.storage (shown c.args.act.now) c.requires.shape c.requires.last c.requires.activation c.requires.standing in
    func_below c.args.set.now c.current-func.result x.0 (ap (slice_get (instances c.args.set.now)) (sym fa) ∙ x.1)

pub next_counted-at-requires : goal.next_counted-at-requires
next_counted-at-requires c = λ n place fb.
    let fr = last_of c.args.act.now.frames.items (running_there c.args.set.now c.args.store.now.storage (shown c.args.act.now) c.requires.shape c.requires.last c.requires.activation c.requires.standing) in
    let fa : first_func c.requires.activation ≡ c.current-func.result = running_func c.args.set.now c.args.store.now.storage (shown c.args.act.now) c.requires.shape c.requires.last c.requires.activation c.requires.standing fr.0 fr.1 fr.2 ∙ sym (c.current-func.ensures fr.0 fr.1 fr.2) in
    let fb' = subst (λ (b : List ℕ). FreeBy b n c.args.act.now.at place) c.body_of-body.ensures fb in
    let r = reached c.args.set.now c.args.store.now.storage c.requires.shape c.requires.last (shown c.args.act.now) c.requires.activation c.current-func.result c.requires.standing fa n place fb' in
    subst (λ (b : List ℕ). HasInstr b place) (sym c.body_of-body.ensures) (instr_at_spot c.args.set.now c.args.store.now.storage c.requires.shape c.requires.last (shown c.args.act.now) c.requires.activation c.current-func.result n place r)

pub counted-requires-clause-small : goal.counted-requires-clause-small
counted-requires-clause-small c = bytes_small c.args.set.now c.args.store.now.storage (shown c.args.act.now) c.requires.shape c.requires.last c.requires.activation c.requires.standing

pub counted-requires-clause-runs : goal.counted-requires-clause-runs
counted-requires-clause-runs c =
    let fr = last_of c.args.act.now.frames.items (running_there c.args.set.now c.args.store.now.storage (shown c.args.act.now) c.requires.shape c.requires.last c.requires.activation c.requires.standing) in
    let fa : first_func c.requires.activation ≡ c.current-func.result = running_func c.args.set.now c.args.store.now.storage (shown c.args.act.now) c.requires.shape c.requires.last c.requires.activation c.requires.standing fr.0 fr.1 fr.2 ∙ sym (c.current-func.ensures fr.0 fr.1 fr.2) in
    let fb : FreeBy (code_in c.args.set.now c.current-func.result) c.next_counted-at.ensures.free.0 c.args.act.now.at c.next_counted-at.result.0 =
    subst (λ (b : List ℕ). FreeBy b c.next_counted-at.ensures.free.0 c.args.act.now.at c.next_counted-at.result.0) c.body_of-body.ensures c.next_counted-at.ensures.free.1 in
    let rd : instr_in (code_in c.args.set.now c.current-func.result) c.next_counted-at.result.0 ≡ Ok (op_of c.next_counted-at.result.1, c.next_counted-at.result.2) =
    subst (λ (b : List ℕ). instr_in b c.next_counted-at.result.0 ≡ Ok (op_of c.next_counted-at.result.1, c.next_counted-at.result.2)) c.body_of-body.ensures c.next_counted-at.ensures.reads in
    let r = reached c.args.set.now c.args.store.now.storage c.requires.shape c.requires.last (shown c.args.act.now) c.requires.activation c.current-func.result c.requires.standing fa c.next_counted-at.ensures.free.0 c.next_counted-at.result.0 fb in
    subst (λ (b : List ℕ). CanReduce c.args.set.now c.owner-part.result.0 b (with_operands (shown c.args.act.now) c.args.act.now.operands.items c.next_counted-at.result.0) c.next_counted-at.result.1 c.next_counted-at.result.2 c.args.store.now.storage) (sym c.body_of-body.ensures)
    (can_reduce c.args.set.now c.args.store.now.storage c.requires.shape c.requires.last (shown c.args.act.now) c.requires.activation c.current-func.result c.next_counted-at.ensures.free.0 c.next_counted-at.result.0 c.next_counted-at.result.2 r c.next_counted-at.result.1 rd c.next_counted-at.ensures.counted c.owner-part.result.0 c.owner-part.result.1 c.owner-part.ensures.owner)

pub returns-clause-does : goal.returns-clause-does
returns-clause-does c = λ shape last a st.
    let fr = last_of c.args.act.now.frames.items (running_there c.args.set.now c.args.store.now.storage (shown c.args.act.now) shape last a st) in
    let fa : first_func a ≡ c.current-func.result = running_func c.args.set.now c.args.store.now.storage (shown c.args.act.now) shape last a st fr.0 fr.1 fr.2 ∙ sym (c.current-func.ensures fr.0 fr.1 fr.2) in
    let fb : FreeBy (code_in c.args.set.now c.current-func.result) c.next_counted-at.ensures.free.0 c.args.act.now.at c.next_counted-at.result.0 =
    subst (λ (b : List ℕ). FreeBy b c.next_counted-at.ensures.free.0 c.args.act.now.at c.next_counted-at.result.0) c.body_of-body.ensures c.next_counted-at.ensures.free.1 in
    let rd : instr_in (code_in c.args.set.now c.current-func.result) c.next_counted-at.result.0 ≡ Ok (op_of c.next_counted-at.result.1, c.next_counted-at.result.2) =
    subst (λ (b : List ℕ). instr_in b c.next_counted-at.result.0 ≡ Ok (op_of c.next_counted-at.result.1, c.next_counted-at.result.2)) c.body_of-body.ensures c.next_counted-at.ensures.reads in
    let r = reached c.args.set.now c.args.store.now.storage shape last (shown c.args.act.now) a c.current-func.result st fa c.next_counted-at.ensures.free.0 c.next_counted-at.result.0 fb in
    let n = c.next_counted-at.ensures.free.0 in
    let at = c.next_counted-at.result.0 in
    let x = spot_at c.args.set.now c.args.store.now.storage shape last (shown c.args.act.now) a c.current-func.result n at r in
    let inside : InPart c.args.set.now c.owner-part.result.0 x.place.func x.fn = record { index = c.owner-part.result.1; owner = ap (slice_get (owners (set_of c.args.set.now))) (func_at c.args.set.now c.args.store.now.storage shape last (shown c.args.act.now) a c.current-func.result n at r) ∙ c.owner-part.ensures.owner; found = x.found } in
    let m = subst (λ (b : List ℕ). Meets (code_in c.args.set.now) b (with_operands (shown c.args.act.now) c.args.act.now.operands.items c.next_counted-at.result.0) c.next_counted-at.result.1 c.next_counted-at.result.2 (instances c.args.set.now) x.fn c.args.store.now.storage x.place x.code x.values) (sym c.body_of-body.ensures)
    (meets_at c.args.set.now c.args.store.now.storage shape last (shown c.args.act.now) a c.current-func.result n at c.next_counted-at.result.2 r c.next_counted-at.result.1 rd c.next_counted-at.ensures.counted) in
    let told = c.counted.ensures.does x.fn x.place x.code x.values inside m in
    let told' = subst (λ (y : Reduced). IfOk c.counted.result (λ r. Tells (code_in c.args.set.now) c.counted.new.store.storage (shown c.counted.new.act) r y.answer y.event)) (ap (red (instances c.args.set.now) c.args.store.now.storage) (sym x.is)) told in
    subst (λ (z : Stepped). IfOk c.counted.result (λ r. Tells (code_in c.args.set.now) c.counted.new.store.storage (shown c.counted.new.act) r z.answer z.event))
    (sym (step_is c.args.set.now c.args.store.now.storage shape last (shown c.args.act.now) a c.current-func.result n at c.next_counted-at.result.2 r c.next_counted-at.result.1 rd c.next_counted-at.ensures.counted)) told'

pub returns-clause-ends : goal.returns-clause-ends
returns-clause-ends c = c.counted.ensures.ends
    (subst (λ n. n ≤ most_weight) (weighs (code_in c.args.set.now) (shown c.args.act.now) c.requires.activation c.requires.standing.stands) c.requires.standing.call.light)
