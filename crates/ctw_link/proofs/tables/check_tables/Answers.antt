use Rattle.std.proofs.Common.{arith}
use Rattle.std.proofs.lemmas.Result.{err_from_is_err_and}
use Rattle.ctw_link.specs.Sets.{set_of}
use Rattle.ctw_link.specs.Numbers.{linked}
use Rattle.ctw_link.proofs.TablePasses.{tables_more, tables_stop}
use Rattle.ctw_link.proofs.tables.check_tables.Goals as goal

pub tables-preserved : goal.tables-preserved
tables-preserved c = tables_more (linked (set_of c.args.parts.now)) c.tables.table c.in_ok-check_table.ensures c.tables.invariant

pub returns-in_err-check_table : goal.returns-in_err-check_table
returns-in_err-check_table c =
    let p = err_from_is_err_and c.from_residual.result c.from_residual.ensures.1 in
    rw (p.1, p.2) (tables_stop (linked (set_of c.args.parts.now)) c.tables.table c.args.tables _ (omega arith) c.tables.invariant c.in_err-check_table.ensures)
