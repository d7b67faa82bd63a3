use Rattle.std.proofs.Common.{◌≡◌, [], take}
use Rattle.ctw_text.specs.Names.{field_names, fields_with}
use Rattle.ctw_names.specs.Noted.{noted}
use Rattle.ctw_names.specs.Doubles.{doubles_onto}
use Rattle.ctw_names.proofs.space.names_with.Given as goal

abbrev pub invariant-fields : goal.invariant-fields
invariant-fields l =
    (l.table ≡ field_names (fields_with l.tag (take l.i l.fields)))
    × (l.faults ≡ noted l.initial.faults (doubles_onto [] (field_names (fields_with l.tag (take l.i l.fields)))))
