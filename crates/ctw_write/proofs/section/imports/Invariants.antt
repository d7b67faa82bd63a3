use Rattle.ctw_module.specs.Trees.{tree}
use Rattle.ctw_write.specs.Canon.{import_text}
use Rattle.ctw_write.proofs.Listed.{Listed}
use Rattle.ctw_write.proofs.section.imports.Given as goal

-- the first ones are written
abbrev pub invariant-loop-i : goal.invariant-loop-i
invariant-loop-i l = Listed import_text (tree l.m).imports l.i l.initial.out.items l.out.items
