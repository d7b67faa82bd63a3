use Rattle.std.proofs.Common.{◌≡◌, ◌<◌, ◌-◌, ◌∷◌, false, ◌∙◌, length, Ok, Err, ap, sym, subst, arith}
use Rattle.ctw_ops.specs.declared.types.Label.{Label}
use Rattle.ctw_ops.specs.Code.{Code}
use Rattle.ctw_stack.specs.Opens.{opened}
use Rattle.ctw_flat.specs.Spelled.{IsBody}
use Rattle.ctw_flat.specs.Instructions.{op_of}
use Rattle.ctw_flat.specs.Places.{instr_in}
use Rattle.ctw_flat.proofs.Places.{instr_behind}
use Rattle.ctw_sites.specs.Bodies.{IsReady}
use Rattle.ctw_sites.specs.Scope.{scope, place}
use Rattle.ctw_sites.proofs.LoopLaws.{Going, going_begins, going_on, going_done, going_reads, first_goes, first_room}
use Rattle.ctw_sites.proofs.body.add_code.Goals as goal

pub opcodes-init : goal.opcodes-init
opcodes-init c = record {
  bytes = c.new-walk.ensures.bytes;
  going = λ code m r.
      let b = c.in_ok-enter.ensures in
      let e = b ∙ (λ i. opened false (c.result.ensures i) ∷ c.clear.ensures i) in
      subst (λ z. Going (place c.args.around.now) (scope c.args.around.now) code c.args.body.now z 0 c.enter.new.self c.args.packer.now c.args.packer.now) (sym c.new-walk.ensures.place)
      (going_begins (place c.args.around.now) (scope c.args.around.now) code c.args.body.now c.args.packer.now c.enter.new.self m r e);
}

pub returns-in-Err : goal.returns-in-Err
returns-in-Err c = λ code m r.
    let i = subst (λ z. instr_in z c.opcodes.walk.place ≡ Err c.in-Err.field-0) c.opcodes.invariant.bytes c.in-Err.ensures.instr in
    let lt = subst (λ z. c.opcodes.walk.place < length z) c.opcodes.invariant.bytes (c.is_done.ensures.more c.opcodes-test.true) in
    absurd (going_reads (place c.args.around.now) (scope c.args.around.now) code c.args.body.now c.args.packer.now c.opcodes.walk.place c.opcodes.at c.opcodes.stack c.opcodes.packer c.in-Err.field-0 (c.opcodes.invariant.going code m r) lt i)

below : (c : goal.After-instr-in-opcodes-1) → c.opcodes.walk.place < length c.args.body.now
below c = subst (λ z. c.opcodes.walk.place < length z) c.opcodes.invariant.bytes (c.is_done.ensures.more c.opcodes-test.true)

reads : (c : goal.After-instr-in-opcodes-1) → instr_in c.args.body.now c.opcodes.walk.place ≡ Ok (op_of c.in-Ok.instr, c.next.new.self.place)
reads c = subst (λ z. instr_in z c.opcodes.walk.place ≡ Ok (op_of c.in-Ok.instr, c.next.new.self.place)) c.opcodes.invariant.bytes c.in-Ok.ensures.instr

now : (c : goal.After-instr-in-opcodes-1) → (code : Code Label) → IsBody c.args.body.now code → IsReady (place c.args.around.now) (scope c.args.around.now) code c.args.packer.now.count
    → Going (place c.args.around.now) (scope c.args.around.now) code c.args.body.now c.opcodes.walk.place c.opcodes.at c.opcodes.stack c.opcodes.packer c.args.packer.now
now c code m r = c.opcodes.invariant.going code m r

pub step-requires-clause-goes : goal.step-requires-clause-goes
step-requires-clause-goes c =
    first_goes (place c.args.around.now) (scope c.args.around.now) c.requires.0 c.args.body.now c.args.packer.now c.opcodes.walk.place c.opcodes.at c.opcodes.stack c.opcodes.packer (op_of c.in-Ok.instr) c.next.new.self.place
    (now c c.requires.0 c.requires.1 c.requires.2) (below c) (reads c)

pub step-requires-clause-room : goal.step-requires-clause-room
step-requires-clause-room c =
    first_room (place c.args.around.now) (scope c.args.around.now) c.requires.0 c.args.body.now c.args.packer.now c.opcodes.walk.place c.opcodes.at c.opcodes.stack c.opcodes.packer (op_of c.in-Ok.instr) c.next.new.self.place
    (now c c.requires.0 c.requires.1 c.requires.2) (below c) (reads c)

pub step-requires-clause-few : goal.step-requires-clause-few
step-requires-clause-few c =
    let g = now c c.requires.0 c.requires.1 c.requires.2 in
    let s = c.is_done.ensures.short in
    let b = ap length c.opcodes.invariant.bytes in
    omega (arith, g.slots, g.few, below c, s, b)

pub step-requires-clause-small : goal.step-requires-clause-small
step-requires-clause-small c = (now c c.requires.0 c.requires.1 c.requires.2).small

pub opcodes-smaller : goal.opcodes-smaller
opcodes-smaller c =
    let g = c.opcodes.invariant.going c.requires.0 c.requires.1 c.requires.2 in
    let i = subst (λ z. instr_in z c.opcodes.walk.place ≡ Ok (op_of c.in-Ok.instr, c.next.new.self.place)) c.opcodes.invariant.bytes c.in-Ok.ensures.instr in
    let b = instr_behind c.args.body.now c.opcodes.walk.place (op_of c.in-Ok.instr) c.next.new.self.place g.inside i in
    let less : length c.next.new.self.bytes - c.next.new.self.place < length c.opcodes.walk.bytes - c.opcodes.walk.place = omega (arith, ap length c.in-Ok.ensures.bytes, ap length c.opcodes.invariant.bytes, b.0, b.1) in
    less

pub opcodes-preserved : goal.opcodes-preserved
opcodes-preserved c = record {
  bytes = c.in-Ok.ensures.bytes ∙ c.opcodes.invariant.bytes;
  going = λ code m r.
      let i = subst (λ z. instr_in z c.opcodes.walk.place ≡ Ok (op_of c.in-Ok.instr, c.next.new.self.place)) c.opcodes.invariant.bytes c.in-Ok.ensures.instr in
      let lt = subst (λ z. c.opcodes.walk.place < length z) c.opcodes.invariant.bytes (c.is_done.ensures.more c.opcodes-test.true) in
      going_on (place c.args.around.now) (scope c.args.around.now) code c.args.body.now c.args.packer.now c.opcodes.walk.place c.opcodes.at c.opcodes.stack c.opcodes.packer (op_of c.in-Ok.instr) c.next.new.self.place
      (c.opcodes.invariant.going code m r) lt i c.step.new.stack c.step.new.packer c.in_ok-step.ensures.stack c.in_ok-step.ensures.sites;
}

pub returns : goal.returns
returns c = λ code m r.
    let d = c.is_done.ensures.done c.opcodes-test.false in
    let b = ap length c.opcodes.invariant.bytes in
    going_done (place c.args.around.now) (scope c.args.around.now) code c.args.body.now c.args.packer.now c.opcodes.walk.place c.opcodes.at c.opcodes.stack c.opcodes.packer (c.opcodes.invariant.going code m r) (omega (arith, d, b))
