use Rattle.std.proofs.Common.{length, sym, ◌∙◌, arith}
use Rattle.std.proofs.lemmas.Bool.{eqb-true}
use Rattle.std.proofs.lemmas.Result.{on_ok_weaker}
use Rattle.ctw_parse.specs.WideCanon.{wide_entry_text}
use Rattle.ctw_parse.specs.Numbers.{IsNumberedEntry}
use Rattle.ctw_parse.proofs.Sections.{item_at, section_next, section_end, section_none}
use Rattle.ctw_parse.proofs.section.put_types.Goals as goal

pub items-preserved : goal.items-preserved
items-preserved c =
    section_next IsNumberedEntry wide_entry_text c.args.entries.now c.items.entry-index c.entry-item.result _ c.items.contents.items c.put_entry.new.out.items (item_at c.args.entries.now c.items.entry-index c.entry-item.result (omega arith) c.entry-item.is) c.in_ok-put_entry.ensures.written c.in_ok-put_entry.ensures.numbers c.items.invariant

pub returns-clause-numbers : goal.returns-clause-numbers
returns-clause-numbers c =
    on_ok_weaker c.put_contents.result (λ short. section_end IsNumberedEntry wide_entry_text c.args.entries.now c.items.entry-index _ _ c.items.contents.items c.deref.result.now (omega arith) c.new-contents.ensures.items c.in_ok-put_count.ensures c.items.invariant c.deref.ensures.value short) c.put_contents.ensures.small

pub returns-then-is_empty-clause-numbers : goal.returns-then-is_empty-clause-numbers
returns-then-is_empty-clause-numbers c = section_none IsNumberedEntry wide_entry_text c.args.entries.now (eqb-true (length c.args.entries.now) 0 (sym c.is_empty.ensures ∙ c.if-is_empty.true))
