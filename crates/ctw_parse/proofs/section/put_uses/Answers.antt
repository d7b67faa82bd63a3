use Rattle.std.proofs.Common.{◌++◌, length, sym, ap, subst, ◌∙◌, arith, rules}
use Rattle.std.proofs.lemmas.Bool.{eqb-true}
use Rattle.std.proofs.lemmas.Result.{on_ok_weaker}
use Rattle.ctw_leb.specs.Spelling.{u32_text}
use Rattle.ctw_text.specs.Names.{WideFunction}
use Rattle.ctw_write.specs.KeepsLimits.{Is32}
use Rattle.ctw_parse.proofs.Sections.{item_at, section_next, section_end, section_none}
use Rattle.ctw_parse.proofs.section.put_uses.Goals as goal

pub items-preserved : goal.items-preserved
items-preserved c =
    section_next (λ (f : WideFunction). Is32 f.type) (λ (f : WideFunction). u32_text f.type) c.args.functions.now c.items.function-index c.function-item.result _ c.items.contents.items c.put_u32.new.out.items (item_at c.args.functions.now c.items.function-index c.function-item.result (omega arith) c.function-item.is) (c.in_ok-put_u32.ensures.put ∙ ap (λ (f : WideFunction). c.items.contents.items ++ u32_text f.type) c.function.view_is) (subst (λ (f : WideFunction). Is32 f.type) c.function.view_is (search rules)) c.items.invariant

pub returns-clause-numbers : goal.returns-clause-numbers
returns-clause-numbers c =
    on_ok_weaker c.put_contents.result (λ short. section_end (λ (f : WideFunction). Is32 f.type) (λ (f : WideFunction). u32_text f.type) c.args.functions.now c.items.function-index _ _ c.items.contents.items c.deref.result.now (omega arith) c.new-contents.ensures.items c.in_ok-put_count.ensures c.items.invariant c.deref.ensures.value short) c.put_contents.ensures.small

pub returns-then-is_empty-clause-numbers : goal.returns-then-is_empty-clause-numbers
returns-then-is_empty-clause-numbers c = section_none (λ (f : WideFunction). Is32 f.type) (λ (f : WideFunction). u32_text f.type) c.args.functions.now (eqb-true (length c.args.functions.now) 0 (sym c.is_empty.ensures ∙ c.if-is_empty.true))
