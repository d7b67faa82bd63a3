use Rattle.ctw_parse.proofs.Sections.{CustomsWith}
use Rattle.ctw_parse.proofs.section.put_customs.Given as goal

-- those of the place among the first ones are written
abbrev pub invariant-items : goal.invariant-items
invariant-items l = CustomsWith l.customs l.place l.custom-index l.initial.out.items l.out.items
