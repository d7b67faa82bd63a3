use Rattle.std.proofs.Common.{◌-◌}
use Rattle.ctw_leb.proofs.Loops.{Left}
use Rattle.ctw_form.specs.Read.{global_at}
use Rattle.ctw_read.proofs.lists.globals.Given as goal

abbrev pub invariant-globals : goal.invariant-globals
invariant-globals l = Left (global_at l.ct) l.count l.initial.cursor (l.count - l.counter) l.cursor
