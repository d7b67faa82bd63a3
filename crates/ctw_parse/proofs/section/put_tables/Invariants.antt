use Rattle.ctw_write.specs.Canon.{table_text}
use Rattle.ctw_write.specs.KeepsLimits.{AreSizes}
use Rattle.ctw_parse.proofs.Sections.{ListedWith}
use Rattle.ctw_parse.proofs.section.put_tables.Given as goal

-- the first ones are written
abbrev pub invariant-items : goal.invariant-items
invariant-items l = ListedWith AreSizes table_text l.tables l.table-index l.initial.contents.items l.contents.items
