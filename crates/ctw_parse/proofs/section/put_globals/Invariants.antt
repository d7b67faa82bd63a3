use Rattle.ctw_ops.specs.declared.types.Label.{Label}
use Rattle.ctw_ops.specs.Tree.{Global}
use Rattle.ctw_write.specs.Canon.{global_text}
use Rattle.ctw_write.specs.KeepsLimits.{IsLimitedConstant}
use Rattle.ctw_parse.proofs.Sections.{ListedWith}
use Rattle.ctw_parse.proofs.section.put_globals.Given as goal

-- the first ones are written
abbrev pub invariant-items : goal.invariant-items
invariant-items l = ListedWith (λ (g : Global Label). IsLimitedConstant g.init) global_text l.globals l.global-index l.initial.contents.items l.contents.items
