use Rattle.std.proofs.Common.{◌-◌}
use Rattle.ctw_form.proofs.Gathering.{ListedCodes}
use Rattle.ctw_form.proofs.lists.codes.Given as goal

abbrev pub invariant-entries : goal.invariant-entries
invariant-entries l = ListedCodes l.ct l.count l.initial.cursor (l.count - l.counter) l.all l.cursor l.slots.items l.runs.items
