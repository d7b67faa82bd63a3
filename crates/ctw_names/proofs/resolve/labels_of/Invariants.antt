use Rattle.std.proofs.Common.{◌≡◌, map, take}
use Rattle.std.specs.List.{flat_map}
use Rattle.ctw_text.specs.Names.{find, use_faults}
use Rattle.ctw_names.specs.Noted.{noted}
use Rattle.ctw_names.proofs.resolve.labels_of.Given as goal

abbrev pub invariant-indexes : goal.invariant-indexes
invariant-indexes l =
    (l.numbers.items ≡ map (find l.labels) (take l.i l.xs)) × (l.faults ≡ noted l.initial.faults (flat_map (use_faults l.labels) (take l.i l.xs)))
