use Rattle.std.proofs.Common.{ap, sym, subst, get_or}
use Rattle.ctw_ops.specs.Types.{MemoryType}
use Rattle.ctw_ops.specs.declared.types.Label.{Label}
use Rattle.ctw_link.specs.SetInstances.{LeadsToMemory}
use Rattle.ctw_session.proofs.Exporting.{part_read, memory_leads}
use Rattle.ctw_session.proofs.exports.memory_at.Goals as goal

pub returns-clause-label : goal.returns-clause-label
returns-clause-label c = λ shape s.
    let set = c.args.set.now in
    let p = get_or c.parts.result.now c.args.part c.index-parts-part.result in
    let at = part_read c.parts.result.now set c.args.part c.index-parts-part.result c.parts.ensures.value c.requires.0 c.requires.1 in
    subst (λ l. LeadsToMemory shape l c.in-Some.number) (ap (λ (t : MemoryType Label). t.tag) (sym c.ty.view_is))
    (memory_leads set c.parts.ensures.linked c.parts.ensures.matching shape s c.args.part p at c.in-Some-memory.ty c.in-Some.number (sym c.in-Some-memory.ensures) (sym c.in-Some.ensures.number))
