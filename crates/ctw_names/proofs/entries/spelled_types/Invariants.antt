use Rattle.std.proofs.Common.{◌≡◌, map, take}
use Rattle.ctw_text.specs.Names.{type_fields, type_of}
use Rattle.ctw_names.specs.Spaces.{space_in}
use Rattle.ctw_names.proofs.entries.spelled_types.Given as goal

abbrev pub invariant-fields : goal.invariant-fields
invariant-fields l = l.types.items ≡ map (type_of (space_in l.space)) (type_fields (take l.i l.fields))
