use Rattle.ctw_module.specs.Trees.{tree}
use Rattle.ctw_write.specs.Canon.{segment_text}
use Rattle.ctw_write.proofs.Listed.{Listed}
use Rattle.ctw_place.proofs.section.segments.Given as goal

-- the first ones are written
abbrev pub invariant-loop-i : goal.invariant-loop-i
invariant-loop-i l = Listed segment_text (tree l.m).segments l.i l.initial.out.items l.out.items
