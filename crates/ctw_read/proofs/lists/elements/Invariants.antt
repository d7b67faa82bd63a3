use Rattle.std.proofs.Common.{◌-◌}
use Rattle.ctw_leb.proofs.Loops.{Left}
use Rattle.ctw_form.specs.Read.{element_at}
use Rattle.ctw_read.proofs.lists.elements.Given as goal

abbrev pub invariant-elements : goal.invariant-elements
invariant-elements l = Left (element_at l.ct) l.count l.initial.cursor (l.count - l.counter) l.cursor
