use Rattle.ctw_ops.specs.Tree.{Function}
use Rattle.ctw_ops.specs.declared.types.Label.{Label}
use Rattle.ctw_leb.specs.Spelling.{u32_text}
use Rattle.ctw_ops.specs.Erasure.{erase_module}
use Rattle.ctw_module.specs.Trees.{tree}
use Rattle.ctw_write.specs.Canon.{vector_text}
use Rattle.ctw_write.proofs.Shorter.{section_short, vector_short, contents_short}
use Rattle.ctw_strip.proofs.section.put_uses.Goals as goal

pub put_section-requires : goal.put_section-requires
put_section-requires c =
    let m = erase_module (tree c.args.m.now) in
    contents_short c.deref.result.now c.uses.new.out.items c.new-contents.result.items (vector_text (λ (f : Function Label). u32_text f.type) m.functions) c.deref.ensures.value c.in_ok-uses.ensures c.new-contents.ensures.items
    (vector_short 3 (λ (f : Function Label). u32_text f.type) m.functions (section_short m 3 c.requires.erased))
