use Rattle.std.proofs.Common.{◌≡◌, map, take}
use Rattle.ctw_text.specs.Names.{find}
use Rattle.ctw_names.proofs.resolve.find_all.Given as goal

abbrev pub invariant-indexes : goal.invariant-indexes
invariant-indexes l = l.numbers.items ≡ map (find l.names) (take l.i l.xs)
