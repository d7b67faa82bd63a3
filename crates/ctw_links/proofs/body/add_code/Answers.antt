use Rattle.std.proofs.Common.{◌≡◌, ◌<◌, ◌≤◌, ◌+◌, ◌-◌, ◌∷◌, ◌++◌, false, ◌∙◌, length, Ok, Err, ap, sym, subst, arith}
use Rattle.ctw_ops.specs.declared.types.Label.{Label}
use Rattle.ctw_ops.specs.Code.{Code}
use Rattle.ctw_stack.specs.Opens.{opened}
use Rattle.ctw_flat.specs.Spelled.{IsBody}
use Rattle.ctw_flat.specs.Instructions.{op_of}
use Rattle.ctw_flat.specs.Places.{instr_in}
use Rattle.ctw_flat.proofs.Places.{instr_behind}
use Rattle.ctw_sites.specs.Bodies.{IsReady, outermost}
use Rattle.ctw_sites.specs.Scope.{scope, place}
use Rattle.ctw_links.specs.Uses.{op_users}
use Rattle.ctw_sites.proofs.LoopLaws.{Going, going_begins, going_on, going_done, going_reads, first_goes, first_room}
use Rattle.ctw_links.proofs.LoopFacts.{Noting, noting_begins, noting_on, noting_done}
use Rattle.ctw_links.proofs.body.add_code.Goals as goal

pub opcodes-init : goal.opcodes-init
opcodes-init c =
    let b : c.enter.new.self ≡ outermost (scope c.args.around.now) = c.in_ok-enter.ensures ∙ (λ i. opened false (c.result.ensures i) ∷ c.clear.ensures i) in
    record {
      bytes = c.new-walk.ensures.bytes;
      going = λ code m r.
          subst (λ z. Going (place c.args.around.now) (scope c.args.around.now) code c.args.body.now z 0 c.enter.new.self c.args.packer.now c.args.packer.now) (sym c.new-walk.ensures.place)
          (going_begins (place c.args.around.now) (scope c.args.around.now) code c.args.body.now c.args.packer.now c.enter.new.self m r b);
      noting = λ code m r.
          subst (λ z. Noting (place c.args.around.now) (scope c.args.around.now) code c.args.body.now z 0 c.args.packer.now.count c.enter.new.self c.args.told.now.items c.args.told.now.items c.args.users.now.items c.args.users.now.items c.args.packer.now.count) (sym c.new-walk.ensures.place)
          (noting_begins (place c.args.around.now) (scope c.args.around.now) code c.args.body.now c.args.told.now.items c.args.users.now.items c.args.packer.now.count c.enter.new.self m b);
    }

pub returns-in-Err : goal.returns-in-Err
returns-in-Err c =
    let i = subst (λ z. instr_in z c.opcodes.walk.place ≡ Err c.in-Err.field-0) c.opcodes.invariant.bytes c.in-Err.ensures.instr in
    let lt = subst (λ z. c.opcodes.walk.place < length z) c.opcodes.invariant.bytes (c.is_done.ensures.more c.opcodes-test.true) in
    let never : (code : Code Label) → IsBody c.args.body.now code → IsReady (place c.args.around.now) (scope c.args.around.now) code c.args.packer.now.count → ⊥ =
    λ code m r. going_reads (place c.args.around.now) (scope c.args.around.now) code c.args.body.now c.args.packer.now c.opcodes.walk.place c.opcodes.at c.opcodes.stack c.opcodes.packer c.in-Err.field-0 (c.opcodes.invariant.going code m r) lt i in
    record { told = λ code m r. absurd (never code m r); users = λ code m r. absurd (never code m r); sites = λ code m r. absurd (never code m r) }

pub step-requires-clause-goes : goal.step-requires-clause-goes
step-requires-clause-goes c =
    let i = subst (λ z. instr_in z c.opcodes.walk.place ≡ Ok (op_of c.in-Ok.instr, c.next.new.self.place)) c.opcodes.invariant.bytes c.in-Ok.ensures.instr in
    let lt = subst (λ z. c.opcodes.walk.place < length z) c.opcodes.invariant.bytes (c.is_done.ensures.more c.opcodes-test.true) in
    first_goes (place c.args.around.now) (scope c.args.around.now) c.requires.0 c.args.body.now c.args.packer.now c.opcodes.walk.place c.opcodes.at c.opcodes.stack c.opcodes.packer (op_of c.in-Ok.instr) c.next.new.self.place
    (c.opcodes.invariant.going c.requires.0 c.requires.1 c.requires.2) lt i

pub step-requires-clause-room : goal.step-requires-clause-room
step-requires-clause-room c =
    let i = subst (λ z. instr_in z c.opcodes.walk.place ≡ Ok (op_of c.in-Ok.instr, c.next.new.self.place)) c.opcodes.invariant.bytes c.in-Ok.ensures.instr in
    let lt = subst (λ z. c.opcodes.walk.place < length z) c.opcodes.invariant.bytes (c.is_done.ensures.more c.opcodes-test.true) in
    first_room (place c.args.around.now) (scope c.args.around.now) c.requires.0 c.args.body.now c.args.packer.now c.opcodes.walk.place c.opcodes.at c.opcodes.stack c.opcodes.packer (op_of c.in-Ok.instr) c.next.new.self.place
    (c.opcodes.invariant.going c.requires.0 c.requires.1 c.requires.2) lt i

pub step-requires-clause-few : goal.step-requires-clause-few
step-requires-clause-few c =
    let g = c.opcodes.invariant.going c.requires.0 c.requires.1 c.requires.2 in
    let lt = subst (λ z. c.opcodes.walk.place < length z) c.opcodes.invariant.bytes (c.is_done.ensures.more c.opcodes-test.true) in
    let s = c.is_done.ensures.short in
    let b = ap length c.opcodes.invariant.bytes in
    omega (arith, g.slots, g.few, lt, s, b)

pub step-requires-clause-small : goal.step-requires-clause-small
step-requires-clause-small c = (c.opcodes.invariant.going c.requires.0 c.requires.1 c.requires.2).small

pub opcodes-smaller : goal.opcodes-smaller
opcodes-smaller c =
    let g = c.opcodes.invariant.going c.requires.0 c.requires.1 c.requires.2 in
    let i = subst (λ z. instr_in z c.opcodes.walk.place ≡ Ok (op_of c.in-Ok.instr, c.next.new.self.place)) c.opcodes.invariant.bytes c.in-Ok.ensures.instr in
    let b = instr_behind c.args.body.now c.opcodes.walk.place (op_of c.in-Ok.instr) c.next.new.self.place g.inside i in
    let less : length c.next.new.self.bytes - c.next.new.self.place < length c.opcodes.walk.bytes - c.opcodes.walk.place = omega (arith, ap length c.in-Ok.ensures.bytes, ap length c.opcodes.invariant.bytes, b.0, b.1) in
    less

pub opcodes-preserved : goal.opcodes-preserved
opcodes-preserved c =
    let i = subst (λ z. instr_in z c.opcodes.walk.place ≡ Ok (op_of c.in-Ok.instr, c.next.new.self.place)) c.opcodes.invariant.bytes c.in-Ok.ensures.instr in
    let lt = subst (λ z. c.opcodes.walk.place < length z) c.opcodes.invariant.bytes (c.is_done.ensures.more c.opcodes-test.true) in
    let k = ap (λ z. z.count) c.packer.view_is in
    record {
      bytes = c.in-Ok.ensures.bytes ∙ c.opcodes.invariant.bytes;
      going = λ code m r.
          going_on (place c.args.around.now) (scope c.args.around.now) code c.args.body.now c.args.packer.now c.opcodes.walk.place c.opcodes.at c.opcodes.stack c.opcodes.packer (op_of c.in-Ok.instr) c.next.new.self.place
          (c.opcodes.invariant.going code m r) lt i c.step.new.stack c.step.new.packer c.in_ok-step.ensures.stack c.in_ok-step.ensures.sites;
      noting = λ code m r.
          noting_on (place c.args.around.now) (scope c.args.around.now) code c.args.body.now c.args.told.now.items c.args.users.now.items c.args.packer.now.count c.opcodes.walk.place c.opcodes.at c.opcodes.packer.count c.opcodes.stack c.opcodes.told.items c.opcodes.users.items
          (op_of c.in-Ok.instr) c.next.new.self.place (c.opcodes.invariant.noting code m r) lt i c.step.new.stack c.step.new.packer.count c.step.new.told.items c.note_user.new.users.items
          c.in_ok-step.ensures.stack (ap (λ z. z.count) c.in_ok-step.ensures.sites) c.in_ok-step.ensures.told (c.in_ok-note_user.ensures ∙ ap (λ z. c.opcodes.users.items ++ op_users z (op_of c.in-Ok.instr)) k);
    }

pub returns : goal.returns
returns c =
    let d = c.is_done.ensures.done c.opcodes-test.false in
    let b = ap length c.opcodes.invariant.bytes in
    let ge : length c.args.body.now ≤ c.opcodes.walk.place = omega (arith, d, b) in
    record {
      told = λ code m r.
          (noting_done (place c.args.around.now) (scope c.args.around.now) code c.args.body.now c.args.told.now.items c.args.users.now.items c.args.packer.now.count c.opcodes.walk.place c.opcodes.at c.opcodes.packer.count c.opcodes.stack c.opcodes.told.items c.opcodes.users.items
          (c.opcodes.invariant.noting code m r) (c.opcodes.invariant.going code m r).inside ge).0;
      users = λ code m r.
          (noting_done (place c.args.around.now) (scope c.args.around.now) code c.args.body.now c.args.told.now.items c.args.users.now.items c.args.packer.now.count c.opcodes.walk.place c.opcodes.at c.opcodes.packer.count c.opcodes.stack c.opcodes.told.items c.opcodes.users.items
          (c.opcodes.invariant.noting code m r) (c.opcodes.invariant.going code m r).inside ge).1;
      sites = λ code m r. going_done (place c.args.around.now) (scope c.args.around.now) code c.args.body.now c.args.packer.now c.opcodes.walk.place c.opcodes.at c.opcodes.stack c.opcodes.packer (c.opcodes.invariant.going code m r) ge;
    }
