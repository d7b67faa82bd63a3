use Rattle.std.proofs.Common.{◌≡◌, ◌<◌, ◌-◌, ◌+◌, ◌∙◌, ℕ, true, false, List, length, sym, ap, subst, refl, arith}
use Rattle.std.specs.String.{string_bytes}
use Rattle.ctw_leb.proofs.Exact.{ok_err}
use Rattle.ctw_ops.specs.declared.types.Label.{Label}
use Rattle.ctw_ops.specs.Code.{Op}
use Rattle.ctw_flat.specs.declared.fault.CodeFault.{CodeFault}
use Rattle.ctw_flat.specs.Spelled.{IsBody}
use Rattle.ctw_flat.specs.Instructions.{op_of}
use Rattle.ctw_flat.proofs.Places.{instr_behind, instr_spelled, spelled_instr}
use Rattle.ctw_print.specs.Texts.{HasAlign}
use Rattle.ctw_print.proofs.Walked.{lines_begin, line_ahead, op_read, lines_next, lines_end}
use Rattle.ctw_print.proofs.code.put_body.Goals as goal

pub opcodes-init : goal.opcodes-init
opcodes-init c =
    let own = subst (λ (l : List ℕ). IsBody l c.requires.0) (sym c.new-walk.ensures.bytes) c.requires.1 in
    record {
      bytes = c.new-walk.ensures.bytes;
      ahead = rw c.new-walk.ensures.place (lines_begin c.new-walk.result.bytes (string_bytes c.args.out.now) c.requires.0 own c.requires.2);
    }

pub unreachable-requires : goal.unreachable-requires
unreachable-requires c =
    let bytes = c.opcodes.walk.bytes in
    let at = c.opcodes.walk.place in
    let h = line_ahead bytes at (string_bytes c.opcodes.out) (string_bytes c.args.out.now) (c.opcodes-test.ensures.more refl) c.opcodes.invariant.ahead in
    let found = spelled_instr bytes at h.text h.after h.op h.spelled h.front in
    ok_err {F = CodeFault} (h.op, at + length h.text) c.in-Err.field-0 (sym found ∙ c.in-Err.ensures.instr)

pub put_line-requires-clause-align : goal.put_line-requires-clause-align
put_line-requires-clause-align c =
    let bytes = c.opcodes.walk.bytes in
    let at = c.opcodes.walk.place in
    let h = line_ahead bytes at (string_bytes c.opcodes.out) (string_bytes c.args.out.now) (c.opcodes-test.ensures.more refl) c.opcodes.invariant.ahead in
    let s = instr_spelled bytes at (op_of c.in-Ok.instr) c.next.new.self.place c.in-Ok.ensures.instr in
    let r = op_read bytes at (string_bytes c.opcodes.out) (string_bytes c.args.out.now) h s.0 s.1 (op_of c.in-Ok.instr) s.2 s.3 in
    subst (λ (op : Op Label). HasAlign op) (sym r.1) h.aligned

pub opcodes-smaller : goal.opcodes-smaller
opcodes-smaller c =
    let b = instr_behind c.opcodes.walk.bytes c.opcodes.walk.place (op_of c.in-Ok.instr) c.next.new.self.place c.opcodes.invariant.ahead.within c.in-Ok.ensures.instr in
    let less : length c.next.new.self.bytes - c.next.new.self.place < length c.opcodes.walk.bytes - c.opcodes.walk.place = omega (arith, ap length c.in-Ok.ensures.bytes, b.0, b.1) in
    less

pub opcodes-preserved : goal.opcodes-preserved
opcodes-preserved c =
    let bytes = c.opcodes.walk.bytes in
    let at = c.opcodes.walk.place in
    let next = c.next.new.self.place in
    let h = line_ahead bytes at (string_bytes c.opcodes.out) (string_bytes c.args.out.now) (c.opcodes-test.ensures.more refl) c.opcodes.invariant.ahead in
    let s = instr_spelled bytes at (op_of c.in-Ok.instr) next c.in-Ok.ensures.instr in
    let size : length c.next.new.self.bytes ≡ length bytes = ap length c.in-Ok.ensures.bytes in
    let last = c.is_done-in-Ok.result in
    let done : last ≡ true → next ≡ length bytes = λ e. c.is_done-in-Ok.ensures.done e ∙ size in
    let more : last ≡ false → next < length bytes = λ e. omega (arith, size, c.is_done-in-Ok.ensures.more e) in
    record {
      bytes = c.in-Ok.ensures.bytes ∙ c.opcodes.invariant.bytes;
      ahead = rw c.in-Ok.ensures.bytes (lines_next bytes at next (string_bytes c.opcodes.out) (string_bytes c.args.out.now) (string_bytes c.put_line.new.out) s.0 s.1 (op_of c.in-Ok.instr) last h s.2 s.3 s.4 done more c.in_ok-put_line-in-Ok.ensures);
    }

pub returns : goal.returns
returns c code m =
    let own = subst (λ (l : List ℕ). IsBody l code) (sym c.opcodes.invariant.bytes) m in
    lines_end c.opcodes.walk.bytes c.opcodes.walk.place (string_bytes c.opcodes.out) (string_bytes c.args.out.now) (omega (arith, c.opcodes-test.ensures.done refl)) c.opcodes.invariant.ahead code own
