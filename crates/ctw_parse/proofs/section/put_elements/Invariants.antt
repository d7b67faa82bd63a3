use Rattle.ctw_write.specs.Canon.{element_text}
use Rattle.ctw_write.specs.KeepsLimits.{IsLimitedElement}
use Rattle.ctw_parse.proofs.Sections.{ListedWith}
use Rattle.ctw_parse.proofs.section.put_elements.Given as goal

-- the first ones are written
abbrev pub invariant-items : goal.invariant-items
invariant-items l = ListedWith IsLimitedElement element_text l.elements l.element-index l.initial.contents.items l.contents.items
