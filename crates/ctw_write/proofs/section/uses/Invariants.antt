use Rattle.ctw_module.specs.Trees.{tree}
use Rattle.ctw_leb.specs.Spelling.{u32_text}
use Rattle.ctw_write.proofs.Listed.{Listed}
use Rattle.ctw_write.proofs.section.uses.Given as goal

-- the first ones are written
abbrev pub invariant-loop-i : goal.invariant-loop-i
invariant-loop-i l = Listed (λ f. u32_text f.type) (tree l.m).functions l.i l.initial.out.items l.out.items
