use Rattle.std.proofs.Common.{◌≡◌, ◌<◌, ◌-◌, length, Ok, Err, ◌∙◌, ap, sym, subst, arith}
use Rattle.ctw_flat.specs.Instructions.{op_of}
use Rattle.ctw_flat.specs.Places.{instr_in}
use Rattle.ctw_flat.proofs.Places.{instr_behind}
use Rattle.ctw_infer.proofs.Walks.{CallsLeft, walk_begins, walk_on, walk_found, walk_ends, walk_reads}
use Rattle.ctw_infer.proofs.trust.first_in_body.Goals as goal

pub opcodes-init : goal.opcodes-init
opcodes-init c = record {
  bytes = c.new-walk.ensures.bytes;
  few = omega arith;
  left = λ code m.
      subst (λ z. CallsLeft c.args.p.now c.args.caller c.args.body.now z 0 code) (sym c.new-walk.ensures.place)
      (walk_begins c.args.p.now c.args.caller c.args.body.now code m);
}

pub unreachable-requires : goal.unreachable-requires
unreachable-requires c =
    let i = subst (λ z. instr_in z c.opcodes.walk.place ≡ Err c.in-Err.field-0) c.opcodes.invariant.bytes c.in-Err.ensures.instr in
    let lt = subst (λ z. c.opcodes.walk.place < length z) c.opcodes.invariant.bytes (c.is_done.ensures.more c.opcodes-test.true) in
    walk_reads c.args.p.now c.args.caller c.args.body.now c.opcodes.walk.place c.opcodes.at c.requires.0 c.in-Err.field-0 (c.opcodes.invariant.left c.requires.0 c.requires.1) lt i

pub returns-in-Some : goal.returns-in-Some
returns-in-Some c = λ code m.
    let i = subst (λ z. instr_in z c.opcodes.walk.place ≡ Ok (op_of c.in-Ok.instr, c.next.new.self.place)) c.opcodes.invariant.bytes c.in-Ok.ensures.instr in
    let lt = subst (λ z. c.opcodes.walk.place < length z) c.opcodes.invariant.bytes (c.is_done.ensures.more c.opcodes-test.true) in
    let b = instr_behind c.args.body.now c.opcodes.walk.place (op_of c.in-Ok.instr) c.next.new.self.place (omega (arith, lt)) i in
    walk_found c.args.p.now c.args.caller c.args.body.now c.opcodes.walk.place c.opcodes.at code (op_of c.in-Ok.instr) c.next.new.self.place
    (c.opcodes.invariant.left code m) lt b.1 i c.in-Some.callee (sym c.in-Some.ensures)

pub overflow_add-at : goal.overflow_add-at
overflow_add-at c = omega (arith, c.opcodes.invariant.few, c.is_done.ensures.more c.opcodes-test.true, c.is_done.ensures.short)

pub opcodes-smaller : goal.opcodes-smaller
opcodes-smaller c =
    let i = subst (λ z. instr_in z c.opcodes.walk.place ≡ Ok (op_of c.in-Ok.instr, c.next.new.self.place)) c.opcodes.invariant.bytes c.in-Ok.ensures.instr in
    let lt = subst (λ z. c.opcodes.walk.place < length z) c.opcodes.invariant.bytes (c.is_done.ensures.more c.opcodes-test.true) in
    let b = instr_behind c.args.body.now c.opcodes.walk.place (op_of c.in-Ok.instr) c.next.new.self.place (omega (arith, lt)) i in
    let less : length c.next.new.self.bytes - c.next.new.self.place < length c.opcodes.walk.bytes - c.opcodes.walk.place = omega (arith, ap length c.in-Ok.ensures.bytes, ap length c.opcodes.invariant.bytes, b.0, b.1) in
    less

pub opcodes-preserved : goal.opcodes-preserved
opcodes-preserved c =
    let i = subst (λ z. instr_in z c.opcodes.walk.place ≡ Ok (op_of c.in-Ok.instr, c.next.new.self.place)) c.opcodes.invariant.bytes c.in-Ok.ensures.instr in
    let lt = subst (λ z. c.opcodes.walk.place < length z) c.opcodes.invariant.bytes (c.is_done.ensures.more c.opcodes-test.true) in
    let b = instr_behind c.args.body.now c.opcodes.walk.place (op_of c.in-Ok.instr) c.next.new.self.place (omega (arith, lt)) i in
    record {
      bytes = c.in-Ok.ensures.bytes ∙ c.opcodes.invariant.bytes;
      few = omega (arith, b.0, c.opcodes.invariant.few);
      left = λ code m.
          walk_on c.args.p.now c.args.caller c.args.body.now c.opcodes.walk.place c.opcodes.at code (op_of c.in-Ok.instr) c.next.new.self.place
          (c.opcodes.invariant.left code m) lt b.1 i (sym c.in_default.ensures);
    }

pub returns : goal.returns
returns c = λ code m.
    walk_ends c.args.p.now c.args.caller c.args.body.now c.opcodes.walk.place c.opcodes.at code (c.opcodes.invariant.left code m)
    (omega (arith, c.is_done.ensures.done c.opcodes-test.false, ap length c.opcodes.invariant.bytes))
