use Rattle.std.proofs.Common.{◌-◌}
use Rattle.ctw_form.specs.Read.{export_at}
use Rattle.ctw_form.proofs.Listing.{ListedItems}
use Rattle.ctw_form.proofs.lists.exports.Given as goal

abbrev pub invariant-exports : goal.invariant-exports
invariant-exports l = ListedItems export_at l.count l.initial.cursor (l.count - l.counter) l.cursor (l.found.items)
