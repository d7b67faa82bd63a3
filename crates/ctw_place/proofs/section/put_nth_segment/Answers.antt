use Rattle.std.proofs.Common.{sym}
use Rattle.ctw_module.specs.Trees.{tree}
use Rattle.ctw_write.specs.Canon.{segment_text}
use Rattle.ctw_write.proofs.Shorter.{item_short}
use Rattle.ctw_place.proofs.section.put_nth_segment.Goals as goal

pub put_segment-requires-clause-short : goal.put_segment-requires-clause-short
put_segment-requires-clause-short c = item_short 11 segment_text (tree c.args.m.now).segments c.args.i c.in-Some.segment c.requires.short (sym c.in-Some.ensures)
