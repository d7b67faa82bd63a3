use Rattle.ctw_ops.specs.declared.types.Label.{Label}
use Rattle.ctw_ops.specs.Tree.{Element}
use Rattle.ctw_ops.specs.Erasure.{erase_element}
use Rattle.ctw_module.specs.Trees.{tree}
use Rattle.ctw_write.specs.Canon.{element_text}
use Rattle.ctw_write.proofs.Listed.{Listed}
use Rattle.ctw_strip.proofs.section.elements.Given as goal

-- the first ones are written
abbrev pub invariant-loop-i : goal.invariant-loop-i
invariant-loop-i l = Listed (λ (x : Element Label). element_text (erase_element x)) (tree l.m).elements l.i l.initial.out.items l.out.items
