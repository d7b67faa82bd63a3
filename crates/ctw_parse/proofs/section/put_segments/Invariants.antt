use Rattle.ctw_write.specs.Canon.{segment_text}
use Rattle.ctw_write.specs.KeepsLimits.{IsLimitedSegment}
use Rattle.ctw_parse.proofs.Sections.{ListedWith}
use Rattle.ctw_parse.proofs.section.put_segments.Given as goal

-- the first ones are written
abbrev pub invariant-items : goal.invariant-items
invariant-items l = ListedWith IsLimitedSegment segment_text l.segments l.segment-index l.initial.contents.items l.contents.items
