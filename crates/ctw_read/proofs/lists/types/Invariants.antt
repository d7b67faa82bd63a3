use Rattle.std.proofs.Common.{◌-◌}
use Rattle.ctw_leb.proofs.Loops.{Left}
use Rattle.ctw_form.specs.Read.{type_entry_at}
use Rattle.ctw_read.proofs.lists.types.Given as goal

abbrev pub invariant-entries : goal.invariant-entries
invariant-entries l = Left (type_entry_at l.ct) l.count l.initial.cursor (l.count - l.counter) l.cursor
