use Rattle.std.proofs.Common.{◌≡◌, take}
use Rattle.std.specs.Prelude.{fold}
use Rattle.std.specs.List.{flat_map}
use Rattle.ctw_text.specs.Names.{added, uses_of}
use Rattle.ctw_names.specs.Spaces.{type_entries_of}
use Rattle.ctw_names.proofs.space.entries.Given as goal

abbrev pub invariant-fields : goal.invariant-fields
invariant-fields l = l.entries ≡ fold added (type_entries_of l.fields) (flat_map uses_of (take l.i l.fields))
