use Rattle.ctw_ops.specs.declared.types.Label.{Label}
use Rattle.ctw_ops.specs.Tree.{Global}
use Rattle.ctw_ops.specs.Erasure.{erase_global}
use Rattle.ctw_module.specs.Trees.{tree}
use Rattle.ctw_write.specs.Canon.{global_text}
use Rattle.ctw_write.proofs.Listed.{Listed}
use Rattle.ctw_strip.proofs.section.globals.Given as goal

-- the first ones are written
abbrev pub invariant-loop-i : goal.invariant-loop-i
invariant-loop-i l = Listed (λ (x : Global Label). global_text (erase_global x)) (tree l.m).globals l.i l.initial.out.items l.out.items
