use Rattle.ctw_module.specs.Trees.{tree}
use Rattle.ctw_write.specs.Canon.{export_text}
use Rattle.ctw_write.specs.Canon.{vector_text}
use Rattle.ctw_write.proofs.Shorter.{section_short, vector_short, contents_short}
use Rattle.ctw_write.proofs.section.put_exports.Goals as goal

pub exports-requires : goal.exports-requires
exports-requires c = section_short (tree c.args.m.now) 7 c.requires

pub put_section-requires : goal.put_section-requires
put_section-requires c =
    let m = tree c.args.m.now in
    contents_short c.deref.result.now c.exports.new.out.items c.new-contents.result.items (vector_text export_text m.exports) c.deref.ensures.value c.in_ok-exports.ensures c.new-contents.ensures.items (vector_short 7 export_text m.exports (section_short m 7 c.requires))
