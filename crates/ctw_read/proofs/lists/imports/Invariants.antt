use Rattle.std.proofs.Common.{◌-◌}
use Rattle.ctw_leb.proofs.Loops.{LeftFrom}
use Rattle.ctw_form.specs.Sections.{none_held, held_after}
use Rattle.ctw_form.specs.Read.{import_at}
use Rattle.ctw_read.proofs.lists.imports.Given as goal

abbrev pub invariant-imports : goal.invariant-imports
invariant-imports l = LeftFrom (import_at l.ct) held_after l.count none_held l.initial.cursor (l.count - l.counter) l.held l.cursor
