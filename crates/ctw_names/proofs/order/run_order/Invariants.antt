use Rattle.std.proofs.Common.{◌≡◌, ◌++◌, [], length}
use Rattle.ctw_text.specs.Fields.{unfolded}
use Rattle.ctw_names.specs.Pending.{pending}
use Rattle.ctw_names.proofs.order.run_order.Given as goal

abbrev pub invariant-items : goal.invariant-items
invariant-items l = l.raws.items ++ pending l.folds l.held l.code ≡ unfolded [] l.initial.code

abbrev pub decreases-items : goal.decreases-items
decreases-items l = length l.code
