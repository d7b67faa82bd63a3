use Rattle.std.proofs.Common.{◌<◌, length, sym, ap, ◌∙◌, arith, Option, Some}
use Rattle.std.proofs.lemmas.Option.{slice_get-get_or}
use Rattle.ctw_flat.specs.declared.instr.Instr.{Instr}
use Rattle.ctw_flat.specs.Instructions.{op_of}
use Rattle.ctw_write.specs.Canon.{op_text}
use Rattle.ctw_write.proofs.Listed.{listed_next}
use Rattle.ctw_gen.proofs.code.put_all.Goals as goal

abbrev some : Instr → Option Instr
some i = Some i

pub loop-instr-preserved : goal.loop-instr-preserved
loop-instr-preserved c =
    let lt : c.loop-instr.instr-index < length c.args.instrs.now = omega arith in
    let there = slice_get-get_or c.args.instrs.now c.loop-instr.instr-index c.instr-item.result lt ∙ ap some (sym c.instr-item.is) in
    listed_next (λ (i : Instr). op_text (op_of i)) c.args.instrs.now c.loop-instr.instr-index c.instr-item.result c.args.out.now.items c.loop-instr.out.items c.put_instr.new.out.items there c.in_ok-put_instr.ensures
    c.loop-instr.invariant
