use Rattle.std.proofs.Common.{◌-◌}
use Rattle.ctw_form.specs.Read.{type_entry_at}
use Rattle.ctw_form.proofs.Listing.{ListedItems}
use Rattle.ctw_form.proofs.lists.types.Given as goal

abbrev pub invariant-entries : goal.invariant-entries
invariant-entries l = ListedItems (type_entry_at l.ct) l.count l.initial.cursor (l.count - l.counter) l.cursor (l.found.items)
