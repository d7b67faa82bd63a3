use Rattle.ctw_gen.proofs.Sections.{memory_short}
use Rattle.ctw_gen.proofs.section.put_memories.Goals as goal

pub put_section-requires : goal.put_section-requires
put_section-requires c =
    memory_short c.new-contents.result.items c.put_u32.new.out.items c.put_memory.new.out.items c.deref.result.now c.new-contents.ensures.items c.in_ok-put_u32.ensures.put c.in_ok-put_memory.ensures c.deref.ensures.value
