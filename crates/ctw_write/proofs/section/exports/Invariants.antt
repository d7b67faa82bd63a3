use Rattle.ctw_module.specs.Trees.{tree}
use Rattle.ctw_write.specs.Canon.{export_text}
use Rattle.ctw_write.proofs.Listed.{Listed}
use Rattle.ctw_write.proofs.section.exports.Given as goal

-- the first ones are written
abbrev pub invariant-loop-i : goal.invariant-loop-i
invariant-loop-i l = Listed export_text (tree l.m).exports l.i l.initial.out.items l.out.items
