use Rattle.ctw_ops.specs.declared.types.Label.{Label}
use Rattle.ctw_ops.specs.Types.{MemoryType}
use Rattle.ctw_write.specs.Canon.{memory_text}
use Rattle.ctw_write.specs.KeepsLimits.{AreSizes}
use Rattle.ctw_parse.proofs.Sections.{ListedWith}
use Rattle.ctw_parse.proofs.section.put_memories.Given as goal

-- the first ones are written
abbrev pub invariant-items : goal.invariant-items
invariant-items l = ListedWith (λ (t : MemoryType Label). AreSizes t.limits) memory_text l.memories l.memory-index l.initial.contents.items l.contents.items
