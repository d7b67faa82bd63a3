use Rattle.ctw_flat.specs.declared.instr.Instr.{Instr}
use Rattle.ctw_flat.specs.Instructions.{op_of}
use Rattle.ctw_write.specs.Canon.{op_text}
use Rattle.ctw_write.proofs.Listed.{Listed}
use Rattle.ctw_gen.proofs.code.put_all.Given as goal

-- the first ones are written
abbrev pub invariant-loop-instr : goal.invariant-loop-instr
invariant-loop-instr l = Listed (λ (i : Instr). op_text (op_of i)) l.instrs l.instr-index l.initial.out.items l.out.items
