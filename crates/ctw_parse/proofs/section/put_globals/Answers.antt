use Rattle.std.proofs.Common.{length, sym, ◌∙◌, arith}
use Rattle.std.proofs.lemmas.Bool.{eqb-true}
use Rattle.std.proofs.lemmas.Result.{on_ok_weaker}
use Rattle.ctw_ops.specs.declared.types.Label.{Label}
use Rattle.ctw_ops.specs.Tree.{Global}
use Rattle.ctw_write.specs.Canon.{global_text}
use Rattle.ctw_write.specs.KeepsLimits.{IsLimitedConstant}
use Rattle.ctw_parse.proofs.Sections.{item_at, section_next, section_end, section_none}
use Rattle.ctw_parse.proofs.section.put_globals.Goals as goal

pub items-preserved : goal.items-preserved
items-preserved c =
    section_next (λ (g : Global Label). IsLimitedConstant g.init) global_text c.args.globals.now c.items.global-index c.global-item.result _ c.items.contents.items c.put_defined.new.out.items (item_at c.args.globals.now c.items.global-index c.global-item.result (omega arith) c.global-item.is) c.in_ok-put_defined.ensures.written c.in_ok-put_defined.ensures.numbers c.items.invariant

pub returns-clause-numbers : goal.returns-clause-numbers
returns-clause-numbers c =
    on_ok_weaker c.put_contents.result (λ short. section_end (λ (g : Global Label). IsLimitedConstant g.init) global_text c.args.globals.now c.items.global-index _ _ c.items.contents.items c.deref.result.now (omega arith) c.new-contents.ensures.items c.in_ok-put_count.ensures c.items.invariant c.deref.ensures.value short) c.put_contents.ensures.small

pub returns-then-is_empty-clause-numbers : goal.returns-then-is_empty-clause-numbers
returns-then-is_empty-clause-numbers c = section_none (λ (g : Global Label). IsLimitedConstant g.init) global_text c.args.globals.now (eqb-true (length c.args.globals.now) 0 (sym c.is_empty.ensures ∙ c.if-is_empty.true))
