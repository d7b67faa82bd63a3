use Rattle.ctw_ops.specs.declared.types.Label.{Label}
use Rattle.ctw_ops.specs.Tree.{Function}
use Rattle.ctw_ops.specs.Erasure.{base_of}
use Rattle.ctw_leb.specs.Spelling.{u32_text}
use Rattle.ctw_module.specs.Trees.{tree}
use Rattle.ctw_write.proofs.Listed.{Listed}
use Rattle.ctw_strip.proofs.section.uses.Given as goal

-- the first ones are written
abbrev pub invariant-loop-i : goal.invariant-loop-i
invariant-loop-i l = Listed (λ (f : Function Label). u32_text (base_of (tree l.m).types f.type)) (tree l.m).functions l.i l.initial.out.items l.out.items
