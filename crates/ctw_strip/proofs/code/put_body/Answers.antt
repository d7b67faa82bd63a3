use Rattle.std.proofs.Common.{◌<◌, ◌-◌, ◌+◌, ◌∙◌, ◌++◌, ℕ, List, length, sym, ap, subst, refl, arith}
use Rattle.ctw_leb.proofs.Exact.{ok_err}
use Rattle.ctw_flat.specs.declared.fault.CodeFault.{CodeFault}
use Rattle.ctw_flat.specs.Spelled.{IsBody}
use Rattle.ctw_flat.specs.Instructions.{op_of}
use Rattle.ctw_flat.proofs.Places.{instr_behind, instr_spelled, spelled_instr}
use Rattle.ctw_write.proofs.Walked.{ops_begin, op_ahead, ops_next, ops_end}
use Rattle.ctw_module.specs.Trees.{tree}
use Rattle.ctw_strip.specs.Stripped.{erased_text}
use Rattle.ctw_strip.proofs.Erasing.{body_erased}
use Rattle.ctw_strip.proofs.code.put_body.Goals as goal

pub opcodes-init : goal.opcodes-init
opcodes-init c =
    let own = subst (λ (l : List ℕ). IsBody l c.requires.0) (sym c.new-walk.ensures.bytes) c.requires.1 in
    record {
      bytes = c.new-walk.ensures.bytes;
      ahead = rw c.new-walk.ensures.place (ops_begin (erased_text (tree c.args.m.now).types) c.new-walk.result.bytes c.args.out.now.items c.requires.0 own);
    }

pub unreachable-requires : goal.unreachable-requires
unreachable-requires c =
    let bytes = c.opcodes.walk.bytes in
    let at = c.opcodes.walk.place in
    let h = op_ahead (erased_text (tree c.args.m.now).types) bytes at c.opcodes.out.items c.args.out.now.items (c.opcodes-test.ensures.more refl) c.opcodes.invariant.ahead in
    let found = spelled_instr bytes at h.text h.after h.op h.spelled h.front in
    ok_err {F = CodeFault} (h.op, at + length h.text) c.in-Err.field-0 (sym found ∙ c.in-Err.ensures.instr)

pub opcodes-smaller : goal.opcodes-smaller
opcodes-smaller c =
    let b = instr_behind c.opcodes.walk.bytes c.opcodes.walk.place (op_of c.in-Ok.instr) c.next.new.self.place c.opcodes.invariant.ahead.within c.in-Ok.ensures.instr in
    let less : length c.next.new.self.bytes - c.next.new.self.place < length c.opcodes.walk.bytes - c.opcodes.walk.place = omega (arith, ap length c.in-Ok.ensures.bytes, b.0, b.1) in
    less

pub opcodes-preserved : goal.opcodes-preserved
opcodes-preserved c =
    let bytes = c.opcodes.walk.bytes in
    let at = c.opcodes.walk.place in
    let h = op_ahead (erased_text (tree c.args.m.now).types) bytes at c.opcodes.out.items c.args.out.now.items (c.opcodes-test.ensures.more refl) c.opcodes.invariant.ahead in
    let s = instr_spelled bytes at (op_of c.in-Ok.instr) c.next.new.self.place c.in-Ok.ensures.instr in
    record {
      bytes = c.in-Ok.ensures.bytes ∙ c.opcodes.invariant.bytes;
      ahead = rw c.in-Ok.ensures.bytes (ops_next (erased_text (tree c.args.m.now).types) bytes at c.next.new.self.place c.opcodes.out.items c.args.out.now.items c.put_erased.new.out.items s.0 s.1 (op_of c.in-Ok.instr) h s.2 s.3 s.4 c.in_ok-put_erased-in-Ok.ensures);
    }

pub returns : goal.returns
returns c code m =
    let own = subst (λ (l : List ℕ). IsBody l code) (sym c.opcodes.invariant.bytes) m in
    ops_end (erased_text (tree c.args.m.now).types) c.opcodes.walk.bytes c.opcodes.walk.place c.opcodes.out.items c.args.out.now.items (omega (arith, c.opcodes-test.ensures.done refl)) c.opcodes.invariant.ahead code own
    ∙ ap (λ (l : List ℕ). c.args.out.now.items ++ l) (body_erased (tree c.args.m.now).types code)
