use Rattle.std.proofs.Common.{length, sym, ◌∙◌, arith}
use Rattle.std.proofs.lemmas.Bool.{eqb-true}
use Rattle.std.proofs.lemmas.Result.{on_ok_weaker}
use Rattle.ctw_ops.specs.Tree.{Export}
use Rattle.ctw_write.specs.Canon.{export_text}
use Rattle.ctw_write.specs.KeepsLimits.{Is32}
use Rattle.ctw_parse.proofs.Sections.{item_at, section_next, section_end, section_none}
use Rattle.ctw_parse.proofs.section.put_exports.Goals as goal

pub items-preserved : goal.items-preserved
items-preserved c =
    section_next (λ (e : Export). Is32 e.index) export_text c.args.exports.now c.items.export-index c.export-item.result _ c.items.contents.items c.put_export.new.out.items (item_at c.args.exports.now c.items.export-index c.export-item.result (omega arith) c.export-item.is) c.in_ok-put_export.ensures.written c.in_ok-put_export.ensures.numbers c.items.invariant

pub returns-clause-numbers : goal.returns-clause-numbers
returns-clause-numbers c =
    on_ok_weaker c.put_contents.result (λ short. section_end (λ (e : Export). Is32 e.index) export_text c.args.exports.now c.items.export-index _ _ c.items.contents.items c.deref.result.now (omega arith) c.new-contents.ensures.items c.in_ok-put_count.ensures c.items.invariant c.deref.ensures.value short) c.put_contents.ensures.small

pub returns-then-is_empty-clause-numbers : goal.returns-then-is_empty-clause-numbers
returns-then-is_empty-clause-numbers c = section_none (λ (e : Export). Is32 e.index) export_text c.args.exports.now (eqb-true (length c.args.exports.now) 0 (sym c.is_empty.ensures ∙ c.if-is_empty.true))
