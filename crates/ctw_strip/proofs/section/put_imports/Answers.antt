use Rattle.ctw_ops.specs.Erasure.{erase_module}
use Rattle.ctw_module.specs.Trees.{tree}
use Rattle.ctw_write.specs.Canon.{vector_text, import_text}
use Rattle.ctw_write.proofs.Shorter.{section_short, vector_short, contents_short}
use Rattle.ctw_strip.proofs.section.put_imports.Goals as goal

pub put_section-requires : goal.put_section-requires
put_section-requires c =
    let m = erase_module (tree c.args.m.now) in
    contents_short c.deref.result.now c.imports.new.out.items c.new-contents.result.items (vector_text import_text m.imports) c.deref.ensures.value c.in_ok-imports.ensures c.new-contents.ensures.items
    (vector_short 2 import_text m.imports (section_short m 2 c.requires.erased))
