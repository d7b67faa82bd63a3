use Rattle.std.proofs.Common.{◌≡◌, ◌++◌, Some, ℕ, List, option_map, ap, sym, ◌∙◌, append_assoc}
use Rattle.ctw_ops.specs.Erasure.{erase_memory_type, erase_module}
use Rattle.ctw_leb.specs.Spelling.{u32_text}
use Rattle.ctw_module.specs.Trees.{tree}
use Rattle.ctw_write.specs.Canon.{memory_text}
use Rattle.ctw_write.proofs.Shorter.{section_short, one_thing_short, contents_short}
use Rattle.ctw_strip.proofs.section.put_memories.Goals as goal

pub put_section-requires : goal.put_section-requires
put_section-requires c =
    let m = erase_module (tree c.args.m.now) in
    let type = erase_memory_type c.in-Some.ty in
    let there : m.memory ≡ Some type = ap (option_map erase_memory_type) (sym c.defined_memory.ensures ∙ c.in-Some.is) in
    let start = c.new-contents.result.items in
    let whole : c.put_memory.new.out.items ≡ start ++ (u32_text 1 ++ memory_text type) =
    c.in_ok-put_memory-in-Some.ensures ∙ ap (λ t. c.put_u32.new.out.items ++ memory_text t) c.erased_memory.ensures ∙ ap (λ (l : List ℕ). l ++ memory_text type) c.in_ok-put_u32-in-Some.ensures.put ∙ append_assoc start (u32_text 1) (memory_text type) in
    contents_short c.deref.result.now c.put_memory.new.out.items start (u32_text 1 ++ memory_text type) c.deref.ensures.value whole c.new-contents.ensures.items
    (one_thing_short 5 memory_text m.memory type there (section_short m 5 c.requires.erased))
