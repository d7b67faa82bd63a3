use Rattle.std.proofs.Common.{sym, ◌∙◌}
use Rattle.ctw_session.proofs.Exporting.{memory_has, memory_number}
use Rattle.ctw_session.proofs.exports.exported_memory.Goals as goal

pub memory_at-requires : goal.memory_at-requires
memory_at-requires c = memory_has c.args.set.now c.args.part.now c.args.name.now c.in_ok-export.export c.in-Memory.is c.in_ok-export.ensures

pub returns-in-Memory-clause-number : goal.returns-in-Memory-clause-number
returns-in-Memory-clause-number c = sym c.memory_at.ensures.number ∙ sym (memory_number c.args.set.now c.args.part.now c.args.name.now c.in_ok-export.export c.in-Memory.is c.in_ok-export.ensures)
