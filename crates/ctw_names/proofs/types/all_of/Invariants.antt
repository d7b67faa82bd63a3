use Rattle.std.proofs.Common.{◌≡◌, take}
use Rattle.ctw_names.proofs.types.all_of.Given as goal

abbrev pub invariant-types : goal.invariant-types
invariant-types l = l.types.items ≡ take l.i l.list
