use Rattle.std.proofs.Common.{◌-◌}
use Rattle.ctw_leb.proofs.Loops.{Left}
use Rattle.ctw_form.specs.Read.{number_at}
use Rattle.ctw_read.proofs.lists.indexes.Given as goal

abbrev pub invariant-indexes : goal.invariant-indexes
invariant-indexes l = Left number_at l.count l.initial.cursor (l.count - l.counter) l.cursor
