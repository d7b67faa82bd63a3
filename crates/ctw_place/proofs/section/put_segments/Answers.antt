use Rattle.ctw_module.specs.Trees.{tree}
use Rattle.ctw_write.specs.Canon.{segment_text}
use Rattle.ctw_write.specs.Canon.{vector_text}
use Rattle.ctw_write.proofs.Shorter.{section_short, vector_short, contents_short}
use Rattle.ctw_place.proofs.section.put_segments.Goals as goal

pub segments-requires-clause-short : goal.segments-requires-clause-short
segments-requires-clause-short c = section_short (tree c.args.m.now) 11 c.requires.short

pub put_section-requires : goal.put_section-requires
put_section-requires c =
    let m = tree c.args.m.now in
    contents_short c.deref.result.now c.segments.new.out.items c.new-contents.result.items (vector_text segment_text m.segments) c.deref.ensures.value c.in_ok-segments.ensures c.new-contents.ensures.items (vector_short 11 segment_text m.segments (section_short m 11 c.requires.short))
