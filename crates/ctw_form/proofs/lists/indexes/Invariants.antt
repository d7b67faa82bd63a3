use Rattle.std.proofs.Common.{◌-◌}
use Rattle.ctw_form.specs.Read.{number_at}
use Rattle.ctw_form.proofs.Listing.{ListedItems}
use Rattle.ctw_form.proofs.lists.indexes.Given as goal

abbrev pub invariant-indexes : goal.invariant-indexes
invariant-indexes l = ListedItems number_at l.count l.initial.cursor (l.count - l.counter) l.cursor (l.found.items)
