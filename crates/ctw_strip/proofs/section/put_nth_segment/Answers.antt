use Rattle.std.proofs.Common.{sym}
use Rattle.ctw_ops.specs.Erasure.{erase_segment, erase_module}
use Rattle.ctw_module.specs.Trees.{tree}
use Rattle.ctw_write.specs.Canon.{segment_text}
use Rattle.ctw_write.proofs.Shorter.{item_short, section_short}
use Rattle.ctw_strip.proofs.Mapped.{mapped_at}
use Rattle.ctw_strip.proofs.section.put_nth_segment.Goals as goal

pub put_erased_segment-requires-clause-short : goal.put_erased_segment-requires-clause-short
put_erased_segment-requires-clause-short c =
    let m = tree c.args.m.now in
    item_short 11 segment_text (erase_module m).segments c.args.i (erase_segment c.in-Some.segment) (section_short (erase_module m) 11 c.requires.short.erased) (mapped_at erase_segment m.segments c.args.i c.in-Some.segment (sym c.in-Some.ensures))
