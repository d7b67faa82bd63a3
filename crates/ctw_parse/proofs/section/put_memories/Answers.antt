use Rattle.std.proofs.Common.{length, sym, ◌∙◌, arith}
use Rattle.std.proofs.lemmas.Bool.{eqb-true}
use Rattle.std.proofs.lemmas.Result.{on_ok_weaker}
use Rattle.ctw_ops.specs.declared.types.Label.{Label}
use Rattle.ctw_ops.specs.Types.{MemoryType}
use Rattle.ctw_write.specs.Canon.{memory_text}
use Rattle.ctw_write.specs.KeepsLimits.{AreSizes}
use Rattle.ctw_parse.proofs.Sections.{item_at, section_next, section_end, section_none}
use Rattle.ctw_parse.proofs.section.put_memories.Goals as goal

pub items-preserved : goal.items-preserved
items-preserved c =
    section_next (λ (t : MemoryType Label). AreSizes t.limits) memory_text c.args.memories.now c.items.memory-index c.memory-item.result _ c.items.contents.items c.put_memory_type.new.out.items (item_at c.args.memories.now c.items.memory-index c.memory-item.result (omega arith) c.memory-item.is) c.in_ok-put_memory_type.ensures.written c.put_memory_type.ensures.numbers c.items.invariant

pub returns-clause-numbers : goal.returns-clause-numbers
returns-clause-numbers c =
    on_ok_weaker c.put_contents.result (λ short. section_end (λ (t : MemoryType Label). AreSizes t.limits) memory_text c.args.memories.now c.items.memory-index _ _ c.items.contents.items c.deref.result.now (omega arith) c.new-contents.ensures.items c.in_ok-put_count.ensures c.items.invariant c.deref.ensures.value short) c.put_contents.ensures.small

pub returns-then-is_empty-clause-numbers : goal.returns-then-is_empty-clause-numbers
returns-then-is_empty-clause-numbers c = section_none (λ (t : MemoryType Label). AreSizes t.limits) memory_text c.args.memories.now (eqb-true (length c.args.memories.now) 0 (sym c.is_empty.ensures ∙ c.if-is_empty.true))
