use Rattle.std.proofs.Common.{◌-◌}
use Rattle.ctw_form.proofs.Gathering.{ListedGroups}
use Rattle.ctw_form.proofs.lists.groups.Given as goal

abbrev pub invariant-groups : goal.invariant-groups
invariant-groups l = ListedGroups l.ct l.count l.initial.all l.initial.cursor (l.count - l.counter) l.own l.all l.cursor l.initial.runs.items l.runs.items
