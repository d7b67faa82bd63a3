use Rattle.ctw_ops.specs.declared.types.Label.{Label}
use Rattle.ctw_ops.specs.Tree.{Import}
use Rattle.ctw_write.specs.Canon.{import_text}
use Rattle.ctw_write.specs.KeepsLimits.{IsLimitedExtern}
use Rattle.ctw_parse.proofs.Sections.{ListedWith}
use Rattle.ctw_parse.proofs.section.put_imports.Given as goal

-- the first ones are written
abbrev pub invariant-items : goal.invariant-items
invariant-items l = ListedWith (λ (i : Import Label). IsLimitedExtern i.kind) import_text l.imports l.import-index l.initial.contents.items l.contents.items
