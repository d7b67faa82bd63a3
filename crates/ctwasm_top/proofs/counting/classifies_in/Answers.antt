use Rattle.std.proofs.Common.{◌≡◌, ◌<◌, ◌-◌, ◌+◌, ◌∙◌, [], ◌++◌, ℕ, List, length, sym, ap, subst, refl, arith, length-append}
use Rattle.ctw_leb.proofs.Exact.{ok_err}
use Rattle.ctw_ops.specs.Code.{opcodes}
use Rattle.ctw_flat.specs.declared.fault.CodeFault.{CodeFault}
use Rattle.ctw_flat.specs.Spelled.{IsBody}
use Rattle.ctw_flat.specs.Instructions.{op_of}
use Rattle.ctw_flat.proofs.Places.{instr_behind, instr_spelled, spelled_instr}
use Rattle.ctw_write.proofs.Walked.{ops_begin, op_ahead, ops_next, ops_end}
use Rattle.ctwasm_top.specs.Works.{is_classify}
use Rattle.ctwasm_top.proofs.Counted.{one_if, mark_of, byte_counts, one_most, mark_counts, marks_counted}
use Rattle.ctwasm_top.proofs.counting.classifies_in.Goals as goal

pub opcodes-init : goal.opcodes-init
opcodes-init c =
    let own = subst (λ (l : List ℕ). IsBody l c.requires.0) (sym c.new-walk.ensures.bytes) c.requires.1 in
    record {
      bytes = c.new-walk.ensures.bytes;
      marks = [];
      counted = refl;
      few = omega arith;
      ahead = rw c.new-walk.ensures.place (ops_begin mark_of c.new-walk.result.bytes [] c.requires.0 own);
    }

pub unreachable-requires : goal.unreachable-requires
unreachable-requires c =
    let bytes = c.opcodes.walk.bytes in
    let at = c.opcodes.walk.place in
    let h = op_ahead mark_of bytes at c.opcodes.invariant.marks [] (c.opcodes-test.ensures.more refl) c.opcodes.invariant.ahead in
    let found = spelled_instr bytes at h.text h.after h.op h.spelled h.front in
    ok_err {F = CodeFault} (h.op, at + length h.text) c.in-Err.field-0 (sym found ∙ c.in-Err.ensures.instr)

pub opcodes-smaller : goal.opcodes-smaller
opcodes-smaller c =
    let b = instr_behind c.opcodes.walk.bytes c.opcodes.walk.place (op_of c.in-Ok.instr) c.next.new.self.place c.opcodes.invariant.ahead.within c.in-Ok.ensures.instr in
    let less : length c.next.new.self.bytes - c.next.new.self.place < length c.opcodes.walk.bytes - c.opcodes.walk.place = omega (arith, ap length c.in-Ok.ensures.bytes, b.0, b.1) in
    less

pub opcodes-preserved : goal.opcodes-preserved
opcodes-preserved c =
    let bytes = c.opcodes.walk.bytes in
    let at = c.opcodes.walk.place in
    let marks = c.opcodes.invariant.marks in
    let op = op_of c.in-Ok.instr in
    let h = op_ahead mark_of bytes at marks [] (c.opcodes-test.ensures.more refl) c.opcodes.invariant.ahead in
    let s = instr_spelled bytes at op c.next.new.self.place c.in-Ok.ensures.instr in
    let b = instr_behind bytes at op c.next.new.self.place c.opcodes.invariant.ahead.within c.in-Ok.ensures.instr in
    let counts : c.from-count.result ≡ one_if (is_classify op) = c.from-count.ensures ∙ byte_counts c.is_classify.result ∙ ap one_if c.is_classify.ensures in
    record {
      bytes = c.in-Ok.ensures.bytes ∙ c.opcodes.invariant.bytes;
      marks = marks ++ mark_of op;
      counted = omega (arith, c.opcodes.invariant.counted, counts, length-append marks (mark_of op), mark_counts (is_classify op));
      few = omega (arith, c.opcodes.invariant.few, counts, one_most (is_classify op), b.0);
      ahead = rw c.in-Ok.ensures.bytes (ops_next mark_of bytes at c.next.new.self.place marks [] (marks ++ mark_of op) s.0 s.1 op h s.2 s.3 s.4 refl);
    }

pub returns : goal.returns
returns c code m =
    let own = subst (λ (l : List ℕ). IsBody l code) (sym c.opcodes.invariant.bytes) m in
    let all = ops_end mark_of c.opcodes.walk.bytes c.opcodes.walk.place c.opcodes.invariant.marks [] (omega (arith, c.opcodes-test.ensures.done refl)) c.opcodes.invariant.ahead code own in
    c.opcodes.invariant.counted ∙ ap length all ∙ marks_counted (opcodes code)
