use Rattle.ctw_module.specs.Trees.{tree}
use Rattle.ctw_write.specs.Canon.{code_text}
use Rattle.ctw_write.proofs.Listed.{Listed}
use Rattle.ctw_write.proofs.entry.codes.Given as goal

-- the first ones are written
abbrev pub invariant-loop-i : goal.invariant-loop-i
invariant-loop-i l = Listed code_text (tree l.m).functions l.i l.initial.out.items l.out.items
