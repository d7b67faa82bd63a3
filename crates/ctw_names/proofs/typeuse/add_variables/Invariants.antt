use Rattle.std.proofs.Common.{◌≡◌, ◌++◌, take}
use Rattle.ctw_text.specs.Names.{names_in}
use Rattle.ctw_names.specs.Noted.{noted}
use Rattle.ctw_names.specs.Doubles.{doubles_onto}
use Rattle.ctw_names.proofs.typeuse.add_variables.Given as goal

abbrev pub invariant-variables : goal.invariant-variables
invariant-variables l =
    (l.table ≡ l.initial.table ++ names_in (take l.i l.variables))
    × (l.faults ≡ noted l.initial.faults (doubles_onto l.initial.table (names_in (take l.i l.variables))))
