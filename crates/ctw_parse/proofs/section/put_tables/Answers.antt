use Rattle.std.proofs.Common.{length, sym, ◌∙◌, arith}
use Rattle.std.proofs.lemmas.Bool.{eqb-true}
use Rattle.std.proofs.lemmas.Option.{slice_get-get_or}
use Rattle.std.proofs.lemmas.Result.{on_ok_weaker}
use Rattle.ctw_write.specs.Canon.{table_text}
use Rattle.ctw_write.specs.KeepsLimits.{AreSizes}
use Rattle.ctw_parse.proofs.Sections.{section_next, section_end, section_none}
use Rattle.ctw_parse.proofs.section.put_tables.Goals as goal

pub items-preserved : goal.items-preserved
items-preserved c =
    section_next AreSizes table_text c.args.tables.now c.items.table-index _ _ c.items.contents.items c.put_table_type.new.out.items (slice_get-get_or c.args.tables.now c.items.table-index _ (omega arith)) c.in_ok-put_table_type.ensures.written c.put_table_type.ensures.numbers c.items.invariant

pub returns-clause-numbers : goal.returns-clause-numbers
returns-clause-numbers c =
    on_ok_weaker c.put_contents.result (λ short. section_end AreSizes table_text c.args.tables.now c.items.table-index _ _ c.items.contents.items c.deref.result.now (omega arith) c.new-contents.ensures.items c.in_ok-put_count.ensures c.items.invariant c.deref.ensures.value short) c.put_contents.ensures.small

pub returns-then-is_empty-clause-numbers : goal.returns-then-is_empty-clause-numbers
returns-then-is_empty-clause-numbers c = section_none AreSizes table_text c.args.tables.now (eqb-true (length c.args.tables.now) 0 (sym c.is_empty.ensures ∙ c.if-is_empty.true))
