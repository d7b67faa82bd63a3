use Rattle.std.proofs.lemmas.Result.{err_from_is_err_and}
use Rattle.ctw_link.specs.Sets.{set_of}
use Rattle.ctw_link.proofs.Verdict.{in_names, in_imports, in_tables, in_pages, in_entries, in_none}
use Rattle.ctw_link.proofs.linking.match_parts.Goals as goal

pub returns-in_err-names-clause-fault : goal.returns-in_err-names-clause-fault
returns-in_err-names-clause-fault c =
    let p = err_from_is_err_and c.from_residual.result c.from_residual.ensures.1 in
    rw (p.1, p.2) (in_names (set_of c.args.parts.now) _ c.in_err-names.ensures.fault)

pub returns-in_err-numbering-clause-fault : goal.returns-in_err-numbering-clause-fault
returns-in_err-numbering-clause-fault c =
    let p = err_from_is_err_and c.from_residual-in_err-numbering.result c.from_residual-in_err-numbering.ensures.1 in
    rw (p.1, p.2) (in_imports (set_of c.args.parts.now) _ c.in_ok-names.ensures.fault c.in_err-numbering.ensures.fault)

pub returns-in_err-check_tables-clause-fault : goal.returns-in_err-check_tables-clause-fault
returns-in_err-check_tables-clause-fault c =
    let p = err_from_is_err_and c.from_residual-in_err-check_tables.result c.from_residual-in_err-check_tables.ensures.1 in
    rw (p.1, p.2) (in_tables (set_of c.args.parts.now) _ c.in_ok-numbering.numbering.tables c.in_ok-numbering.ensures.tables c.in_ok-names.ensures.fault c.in_ok-numbering.ensures.fault c.in_err-check_tables.ensures)

pub returns-in_err-check_pages-clause-fault : goal.returns-in_err-check_pages-clause-fault
returns-in_err-check_pages-clause-fault c =
    let p = err_from_is_err_and c.from_residual-in_err-check_pages.result c.from_residual-in_err-check_pages.ensures.1 in
    rw (p.1, p.2) (in_pages (set_of c.args.parts.now) _ c.in_ok-numbering.numbering.tables c.in_ok-numbering.ensures.tables c.in_ok-names.ensures.fault c.in_ok-numbering.ensures.fault c.in_ok-check_tables.ensures c.in_err-check_pages.ensures.fault)

pub returns-in_err-check_entries-clause-fault : goal.returns-in_err-check_entries-clause-fault
returns-in_err-check_entries-clause-fault c =
    let p = err_from_is_err_and c.from_residual-in_err-check_entries.result c.from_residual-in_err-check_entries.ensures.1 in
    rw (p.1, p.2) (in_entries (set_of c.args.parts.now) _ c.in_ok-numbering.numbering.tables c.in_ok-numbering.ensures.tables c.in_ok-names.ensures.fault c.in_ok-numbering.ensures.fault c.in_ok-check_tables.ensures c.in_ok-check_pages.ensures.fault c.in_err-check_entries.ensures.fault)

pub returns-clause-fault : goal.returns-clause-fault
returns-clause-fault c =
    in_none (set_of c.args.parts.now) c.in_ok-numbering.numbering.tables c.in_ok-numbering.ensures.tables c.in_ok-names.ensures.fault c.in_ok-numbering.ensures.fault c.in_ok-check_tables.ensures c.in_ok-check_pages.ensures.fault c.in_ok-check_entries.ensures.fault
