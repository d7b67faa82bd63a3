use Rattle.std.proofs.Common.{◌<◌, ◌-◌, ◌∙◌, ℕ, List, length, ap, sym, subst, refl, arith}
use Rattle.std.proofs.lemmas.Result.{err_from_is_err_and}
use Rattle.ctw_flat.specs.Spelled.{IsBody}
use Rattle.ctw_flat.specs.Instructions.{op_of}
use Rattle.ctw_flat.proofs.Places.{instr_behind}
use Rattle.ctw_valid.specs.Scope.{scope_of_body}
use Rattle.ctw_valid.specs.Levels.{levels_in}
use Rattle.ctw_valid.proofs.LoopLaws.{running_begins, running_on, running_refused, going_done, going_reads}
use Rattle.ctw_valid.proofs.check.check_code.Goals as goal

pub opcodes-init : goal.opcodes-init
opcodes-init c =
    let b = c.in_ok-begin.ensures.begun in
    record {
      bytes = c.new-walk.ensures.bytes;
      running = rw c.new-walk.ensures.place (running_begins c.args.around.now c.new-walk.result.bytes c.begin.new.levels b.0 b.1 b.2);
    }

pub returns-in-Err : goal.returns-in-Err
returns-in-Err c = λ code m.
    let own = subst (λ (z : List ℕ). IsBody z code) (sym c.opcodes.invariant.bytes) m in
    absurd (going_reads (scope_of_body c.args.around.now) code c.opcodes.walk.bytes c.opcodes.walk.place c.opcodes.at (levels_in c.opcodes.levels) c.in-Err.field-0 (c.opcodes.invariant.running.going code own) (c.opcodes-test.ensures.more refl) c.in-Err.ensures.instr)

pub returns-in_err-step : goal.returns-in_err-step
returns-in_err-step c = λ code m.
    let p = err_from_is_err_and c.from_residual-in_err-step.result c.from_residual-in_err-step.ensures.1 in
    let own = subst (λ (z : List ℕ). IsBody z code) (sym c.opcodes.invariant.bytes) m in
    rw (p.1, p.2) (running_refused c.args.around.now c.opcodes.walk.bytes c.opcodes.walk.place c.opcodes.at c.opcodes.levels (op_of c.in-Ok.instr) c.next.new.self.place c.in_err-step.field-0.0 c.opcodes.invariant.running (c.opcodes-test.ensures.more refl) c.in-Ok.ensures.instr c.in_err-step.ensures.step code own)

pub opcodes-smaller : goal.opcodes-smaller
opcodes-smaller c =
    let b = instr_behind c.opcodes.walk.bytes c.opcodes.walk.place (op_of c.in-Ok.instr) c.next.new.self.place c.opcodes.invariant.running.inside c.in-Ok.ensures.instr in
    let less : length c.next.new.self.bytes - c.next.new.self.place < length c.opcodes.walk.bytes - c.opcodes.walk.place = omega (arith, ap length c.in-Ok.ensures.bytes, b.0, b.1) in
    less

pub opcodes-preserved : goal.opcodes-preserved
opcodes-preserved c = record {
  bytes = c.in-Ok.ensures.bytes ∙ c.opcodes.invariant.bytes;
  running = rw c.in-Ok.ensures.bytes (running_on c.args.around.now c.opcodes.walk.bytes c.opcodes.walk.place c.opcodes.at c.opcodes.levels c.step.new.levels (op_of c.in-Ok.instr) c.next.new.self.place c.opcodes.invariant.running (c.opcodes-test.ensures.more refl) c.in-Ok.ensures.instr c.in_ok-step.ensures.step c.in_ok-step.ensures.next);
}

pub returns : goal.returns
returns c = λ code m.
    let own = subst (λ (z : List ℕ). IsBody z code) (sym c.opcodes.invariant.bytes) m in
    going_done (scope_of_body c.args.around.now) code c.opcodes.walk.bytes c.opcodes.walk.place c.opcodes.at (levels_in c.opcodes.levels) (c.opcodes.invariant.running.going code own) (omega (arith, c.opcodes-test.ensures.done refl))
