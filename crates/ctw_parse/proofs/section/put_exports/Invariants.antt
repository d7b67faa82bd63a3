use Rattle.ctw_ops.specs.Tree.{Export}
use Rattle.ctw_write.specs.Canon.{export_text}
use Rattle.ctw_write.specs.KeepsLimits.{Is32}
use Rattle.ctw_parse.proofs.Sections.{ListedWith}
use Rattle.ctw_parse.proofs.section.put_exports.Given as goal

-- the first ones are written
abbrev pub invariant-items : goal.invariant-items
invariant-items l = ListedWith (λ (e : Export). Is32 e.index) export_text l.exports l.export-index l.initial.contents.items l.contents.items
