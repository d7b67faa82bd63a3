use Rattle.ctw_link.proofs.TablePasses.{PartsPassed}
use Rattle.ctw_link.proofs.tables.check_table.Given as goal

abbrev pub invariant-parts : goal.invariant-parts
invariant-parts l = PartsPassed l.parts l.table l.firsts l.part
