use Rattle.std.proofs.Common.{◌≡◌, take}
use Rattle.ctw_names.specs.Spaces.{type_entries_of}
use Rattle.ctw_names.proofs.space.type_entries.Given as goal

abbrev pub invariant-fields : goal.invariant-fields
invariant-fields l = l.entries ≡ type_entries_of (take l.i l.fields)
