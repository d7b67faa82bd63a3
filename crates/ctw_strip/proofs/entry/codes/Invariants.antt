use Rattle.ctw_ops.specs.Tree.{Function}
use Rattle.ctw_ops.specs.declared.types.Label.{Label}
use Rattle.ctw_ops.specs.Erasure.{erase_function}
use Rattle.ctw_module.specs.Trees.{tree}
use Rattle.ctw_write.specs.Canon.{code_text}
use Rattle.ctw_write.proofs.Listed.{Listed}
use Rattle.ctw_strip.proofs.entry.codes.Given as goal

-- the first ones are written
abbrev pub invariant-loop-i : goal.invariant-loop-i
invariant-loop-i l = Listed (λ (f : Function Label). code_text (erase_function (tree l.m).types f)) (tree l.m).functions l.i l.initial.out.items l.out.items
