use Rattle.std.proofs.Common.{◌≡◌, take}
use Rattle.ctw_text.specs.Names.{names_in}
use Rattle.ctw_names.proofs.locals.names.Given as goal

abbrev pub invariant-variables : goal.invariant-variables
invariant-variables l = l.table ≡ names_in (take l.i l.variables)
