use Rattle.std.proofs.Common.{length, sym, ◌∙◌, arith}
use Rattle.std.proofs.lemmas.Bool.{eqb-true}
use Rattle.std.proofs.lemmas.Result.{on_ok_weaker}
use Rattle.std.specs.List.{All}
use Rattle.ctw_text.specs.Names.{WideFunction}
use Rattle.ctw_write.specs.KeepsLimits.{IsLimitedOp}
use Rattle.ctw_parse.specs.WideCanon.{wide_code_text}
use Rattle.ctw_parse.proofs.Sections.{item_at, section_next, section_end, section_none}
use Rattle.ctw_parse.proofs.section.put_codes.Goals as goal

pub items-preserved : goal.items-preserved
items-preserved c =
    section_next (λ (f : WideFunction). All IsLimitedOp f.code) wide_code_text c.args.functions.now c.items.function-index c.function-item.result _ c.items.contents.items c.put_function.new.out.items (item_at c.args.functions.now c.items.function-index c.function-item.result (omega arith) c.function-item.is) c.in_ok-put_function.ensures.written c.in_ok-put_function.ensures.numbers c.items.invariant

pub returns-clause-numbers : goal.returns-clause-numbers
returns-clause-numbers c =
    on_ok_weaker c.put_contents.result (λ short. section_end (λ (f : WideFunction). All IsLimitedOp f.code) wide_code_text c.args.functions.now c.items.function-index _ _ c.items.contents.items c.deref.result.now (omega arith) c.new-contents.ensures.items c.in_ok-put_count.ensures c.items.invariant c.deref.ensures.value short) c.put_contents.ensures.small

pub returns-then-is_empty-clause-numbers : goal.returns-then-is_empty-clause-numbers
returns-then-is_empty-clause-numbers c = section_none (λ (f : WideFunction). All IsLimitedOp f.code) wide_code_text c.args.functions.now (eqb-true (length c.args.functions.now) 0 (sym c.is_empty.ensures ∙ c.if-is_empty.true))
