use Rattle.std.proofs.Common.{◌≡◌, take}
use Rattle.std.specs.List.{flat_map}
use Rattle.ctw_text.specs.Names.{import_of}
use Rattle.ctw_names.specs.Spaces.{space_in}
use Rattle.ctw_names.proofs.imports.imports.Given as goal

abbrev pub invariant-fields : goal.invariant-fields
invariant-fields l = l.imports.items ≡ flat_map (import_of (space_in l.space)) (take l.i l.fields)
