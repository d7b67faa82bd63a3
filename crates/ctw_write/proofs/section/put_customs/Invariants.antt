use Rattle.ctw_module.specs.Trees.{tree}
use Rattle.ctw_write.proofs.Listed.{CustomsListed}
use Rattle.ctw_write.proofs.section.put_customs.Given as goal

-- those of the place among the first ones are written
abbrev pub invariant-loop-i : goal.invariant-loop-i
invariant-loop-i l = CustomsListed (tree l.m).customs l.place l.i l.initial.out.items l.out.items
