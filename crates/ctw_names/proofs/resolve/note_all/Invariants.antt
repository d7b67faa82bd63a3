use Rattle.std.proofs.Common.{◌≡◌, take}
use Rattle.std.specs.List.{flat_map}
use Rattle.ctw_text.specs.Names.{use_faults}
use Rattle.ctw_names.specs.Noted.{noted}
use Rattle.ctw_names.proofs.resolve.note_all.Given as goal

abbrev pub invariant-indexes : goal.invariant-indexes
invariant-indexes l = l.faults ≡ noted l.initial.faults (flat_map (use_faults l.names) (take l.i l.xs))
