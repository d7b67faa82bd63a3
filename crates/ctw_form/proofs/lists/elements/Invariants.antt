use Rattle.std.proofs.Common.{◌-◌}
use Rattle.ctw_form.proofs.Gathering.{ListedElements}
use Rattle.ctw_form.proofs.lists.elements.Given as goal

abbrev pub invariant-elements : goal.invariant-elements
invariant-elements l = ListedElements l.ct l.count l.initial.cursor (l.count - l.counter) l.cursor l.slots.items l.functions.items
