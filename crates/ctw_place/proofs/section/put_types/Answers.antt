use Rattle.ctw_write.specs.Canon.{vector_text, type_entry_text}
use Rattle.ctw_write.proofs.Shorter.{section_short, vector_short, contents_short}
use Rattle.ctw_place.specs.Bodies.{placed_of}
use Rattle.ctw_place.proofs.section.put_types.Goals as goal

pub put_section-requires : goal.put_section-requires
put_section-requires c =
    let m = placed_of c.args.setting.now in
    contents_short c.deref.result.now c.types.new.out.items c.new-contents.result.items (vector_text type_entry_text m.types) c.deref.ensures.value c.in_ok-types.ensures c.new-contents.ensures.items
    (vector_short 1 type_entry_text m.types (section_short m 1 c.requires.short.placed))
