use Rattle.std.proofs.Common.{◌-◌}
use Rattle.ctw_form.specs.Read.{segment_at}
use Rattle.ctw_form.proofs.Listing.{ListedItems}
use Rattle.ctw_form.proofs.lists.segments.Given as goal

abbrev pub invariant-segments : goal.invariant-segments
invariant-segments l = ListedItems (segment_at l.ct) l.count l.initial.cursor (l.count - l.counter) l.cursor (l.found.items)
