use Rattle.std.proofs.Common.{◌≡◌, take}
use Rattle.std.specs.List.{flat_map}
use Rattle.ctw_text.specs.Names.{starts_in}
use Rattle.ctw_names.specs.Spaces.{space_in}
use Rattle.ctw_names.proofs.defined.starts.Given as goal

abbrev pub invariant-fields : goal.invariant-fields
invariant-fields l = l.starts.items ≡ flat_map (starts_in (space_in l.space)) (take l.i l.fields)
