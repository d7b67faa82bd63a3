use Rattle.ctw_leb.specs.Spelling.{u32_text}
use Rattle.ctw_write.proofs.Listed.{Listed}
use Rattle.ctw_parse.proofs.code.put_numbers.Given as goal

-- the first ones are written
abbrev pub invariant-numbers : goal.invariant-numbers
invariant-numbers l = Listed u32_text l.numbers l.number-index l.initial.out.items l.out.items
