use Rattle.ctw_leb.specs.Spelling.{u32_text}
use Rattle.ctw_text.specs.Names.{WideFunction}
use Rattle.ctw_write.specs.KeepsLimits.{Is32}
use Rattle.ctw_parse.proofs.Sections.{ListedWith}
use Rattle.ctw_parse.proofs.section.put_uses.Given as goal

-- the first ones are written
abbrev pub invariant-items : goal.invariant-items
invariant-items l = ListedWith (λ (f : WideFunction). Is32 f.type) (λ (f : WideFunction). u32_text f.type) l.functions l.function-index l.initial.contents.items l.contents.items
