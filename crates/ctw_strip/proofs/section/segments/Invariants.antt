use Rattle.ctw_ops.specs.declared.types.Label.{Label}
use Rattle.ctw_ops.specs.Tree.{Segment}
use Rattle.ctw_ops.specs.Erasure.{erase_segment}
use Rattle.ctw_module.specs.Trees.{tree}
use Rattle.ctw_write.specs.Canon.{segment_text}
use Rattle.ctw_write.proofs.Listed.{Listed}
use Rattle.ctw_strip.proofs.section.segments.Given as goal

-- the first ones are written
abbrev pub invariant-loop-i : goal.invariant-loop-i
invariant-loop-i l = Listed (λ (x : Segment Label). segment_text (erase_segment x)) (tree l.m).segments l.i l.initial.out.items l.out.items
