use Rattle.std.proofs.Common.{◌-◌}
use Rattle.ctw_form.proofs.Listing.{MoreIndexes}
use Rattle.ctw_form.proofs.lists.more_indexes.Given as goal

abbrev pub invariant-indexes : goal.invariant-indexes
invariant-indexes l = MoreIndexes l.count l.initial.cursor (l.count - l.counter) l.cursor l.initial.all.items l.all.items
