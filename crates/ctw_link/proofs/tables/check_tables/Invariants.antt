use Rattle.std.proofs.Common.{◌≡◌, None}
use Rattle.ctw_link.specs.Sets.{set_of}
use Rattle.ctw_link.specs.Numbers.{linked}
use Rattle.ctw_link.specs.Faults.{tables_fault}
use Rattle.ctw_link.proofs.tables.check_tables.Given as goal

abbrev pub invariant-tables : goal.invariant-tables
invariant-tables l = tables_fault (linked (set_of l.parts)) l.table ≡ None
