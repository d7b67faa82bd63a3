use Rattle.ctw_ops.specs.Erasure.{erase_module}
use Rattle.ctw_module.specs.Trees.{tree}
use Rattle.ctw_write.specs.Canon.{vector_text, code_text}
use Rattle.ctw_write.proofs.Shorter.{section_short, vector_short, contents_short}
use Rattle.ctw_strip.proofs.entry.put_codes.Goals as goal

pub put_section-requires : goal.put_section-requires
put_section-requires c =
    let m = erase_module (tree c.args.m.now) in
    contents_short c.deref.result.now c.codes.new.out.items c.new-contents.result.items (vector_text code_text m.functions) c.deref.ensures.value c.in_ok-codes.ensures c.new-contents.ensures.items
    (vector_short 10 code_text m.functions (section_short m 10 c.requires.erased))
