use Rattle.ctw_module.specs.Trees.{tree}
use Rattle.ctw_write.specs.Canon.{element_text}
use Rattle.ctw_write.specs.Canon.{vector_text}
use Rattle.ctw_write.proofs.Shorter.{section_short, vector_short, contents_short}
use Rattle.ctw_place.proofs.section.put_elements.Goals as goal

pub put_section-requires : goal.put_section-requires
put_section-requires c =
    let m = tree c.args.m.now in
    contents_short c.deref.result.now c.elements.new.out.items c.new-contents.result.items (vector_text element_text m.elements) c.deref.ensures.value c.in_ok-elements.ensures c.new-contents.ensures.items (vector_short 9 element_text m.elements (section_short m 9 c.requires.short))
