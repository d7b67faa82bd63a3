use Rattle.ctw_leb.specs.Spelling.{u32_text}
use Rattle.ctw_write.proofs.Listed.{Listed}
use Rattle.ctw_write.proofs.text.put_functions.Given as goal

-- the first functions are written behind their count
abbrev pub invariant-loop-i : goal.invariant-loop-i
invariant-loop-i l = Listed u32_text l.element.functions l.i l.initial.out.items l.out.items
