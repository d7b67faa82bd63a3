use Rattle.std.proofs.Common.{length, sym, ◌∙◌, arith}
use Rattle.std.proofs.lemmas.Bool.{eqb-true}
use Rattle.std.proofs.lemmas.Result.{on_ok_weaker}
use Rattle.ctw_write.specs.Canon.{segment_text}
use Rattle.ctw_write.specs.KeepsLimits.{IsLimitedSegment}
use Rattle.ctw_parse.proofs.Sections.{item_at, section_next, section_end, section_none}
use Rattle.ctw_parse.proofs.section.put_segments.Goals as goal

pub items-preserved : goal.items-preserved
items-preserved c =
    section_next IsLimitedSegment segment_text c.args.segments.now c.items.segment-index c.segment-item.result _ c.items.contents.items c.put_segment.new.out.items (item_at c.args.segments.now c.items.segment-index c.segment-item.result (omega arith) c.segment-item.is) c.in_ok-put_segment.ensures.written c.in_ok-put_segment.ensures.numbers c.items.invariant

pub returns-clause-numbers : goal.returns-clause-numbers
returns-clause-numbers c =
    on_ok_weaker c.put_contents.result (λ short. section_end IsLimitedSegment segment_text c.args.segments.now c.items.segment-index _ _ c.items.contents.items c.deref.result.now (omega arith) c.new-contents.ensures.items c.in_ok-put_count.ensures c.items.invariant c.deref.ensures.value short) c.put_contents.ensures.small

pub returns-then-is_empty-clause-numbers : goal.returns-then-is_empty-clause-numbers
returns-then-is_empty-clause-numbers c = section_none IsLimitedSegment segment_text c.args.segments.now (eqb-true (length c.args.segments.now) 0 (sym c.is_empty.ensures ∙ c.if-is_empty.true))
