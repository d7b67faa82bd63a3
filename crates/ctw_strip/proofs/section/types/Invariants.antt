use Rattle.ctw_module.specs.Trees.{tree}
use Rattle.ctw_write.proofs.Listed.{Listed}
use Rattle.ctw_strip.specs.Stripped.{kept_text}
use Rattle.ctw_strip.proofs.section.types.Given as goal

-- the first ones are written
abbrev pub invariant-loop-i : goal.invariant-loop-i
invariant-loop-i l = Listed kept_text (tree l.m).types l.i l.initial.out.items l.out.items
