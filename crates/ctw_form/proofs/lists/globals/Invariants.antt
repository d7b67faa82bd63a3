use Rattle.std.proofs.Common.{◌-◌, map}
use Rattle.ctw_form.specs.Read.{global_at}
use Rattle.ctw_form.specs.Shown.{global_in}
use Rattle.ctw_form.proofs.Listing.{ListedItems}
use Rattle.ctw_form.proofs.lists.globals.Given as goal

abbrev pub invariant-globals : goal.invariant-globals
invariant-globals l = ListedItems (global_at l.ct) l.count l.initial.cursor (l.count - l.counter) l.cursor (map global_in l.found.items)
