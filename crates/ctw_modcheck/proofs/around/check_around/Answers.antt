use Rattle.std.proofs.lemmas.Result.{err_from_is_err_and}
use Rattle.ctw_module.specs.Trees.{tree}
use Rattle.ctw_modcheck.proofs.Order.{all_around, past_types, past_imports, past_functions, past_table, past_memory, past_globals, past_exports, past_start, past_elements, found, found_or_short, last}
use Rattle.ctw_modcheck.proofs.around.check_around.Goals as goal

pub returns-in_err-check_types : goal.returns-in_err-check_types
returns-in_err-check_types c =
    let m = tree c.args.m.now in
    let e0 = all_around m in
    let p = err_from_is_err_and c.from_residual.result c.from_residual.ensures.1 in
    rw (p.1, p.2) (found m _ _ _ e0 c.in_err-check_types.ensures)

pub returns-in_err-check_imports : goal.returns-in_err-check_imports
returns-in_err-check_imports c =
    let m = tree c.args.m.now in
    let e0 = all_around m in
    let e1 = past_types m e0 c.in_ok-check_types.ensures in
    let p = err_from_is_err_and c.from_residual-in_err-check_imports.result c.from_residual-in_err-check_imports.ensures.1 in
    rw (p.1, p.2) (found m _ _ _ e1 c.in_err-check_imports.ensures)

pub returns-in_err-check_functions : goal.returns-in_err-check_functions
returns-in_err-check_functions c =
    let m = tree c.args.m.now in
    let e0 = all_around m in
    let e1 = past_types m e0 c.in_ok-check_types.ensures in
    let e2 = past_imports m e1 c.in_ok-check_imports.ensures in
    let p = err_from_is_err_and c.from_residual-in_err-check_functions.result c.from_residual-in_err-check_functions.ensures.1 in
    rw (p.1, p.2) (found m _ _ _ e2 c.in_err-check_functions.ensures)

pub returns-in_err-check_table : goal.returns-in_err-check_table
returns-in_err-check_table c =
    let m = tree c.args.m.now in
    let e0 = all_around m in
    let e1 = past_types m e0 c.in_ok-check_types.ensures in
    let e2 = past_imports m e1 c.in_ok-check_imports.ensures in
    let e3 = past_functions m e2 c.in_ok-check_functions.ensures in
    let p = err_from_is_err_and c.from_residual-in_err-check_table.result c.from_residual-in_err-check_table.ensures.1 in
    rw (p.1, p.2) (found m _ _ _ e3 c.in_err-check_table.ensures)

pub returns-in_err-check_memory : goal.returns-in_err-check_memory
returns-in_err-check_memory c =
    let m = tree c.args.m.now in
    let e0 = all_around m in
    let e1 = past_types m e0 c.in_ok-check_types.ensures in
    let e2 = past_imports m e1 c.in_ok-check_imports.ensures in
    let e3 = past_functions m e2 c.in_ok-check_functions.ensures in
    let e4 = past_table m e3 c.in_ok-check_table.ensures in
    let p = err_from_is_err_and c.from_residual-in_err-check_memory.result c.from_residual-in_err-check_memory.ensures.1 in
    rw (p.1, p.2) (found m _ _ _ e4 c.in_err-check_memory.ensures)

pub returns-in_err-check_globals : goal.returns-in_err-check_globals
returns-in_err-check_globals c =
    let m = tree c.args.m.now in
    let e0 = all_around m in
    let e1 = past_types m e0 c.in_ok-check_types.ensures in
    let e2 = past_imports m e1 c.in_ok-check_imports.ensures in
    let e3 = past_functions m e2 c.in_ok-check_functions.ensures in
    let e4 = past_table m e3 c.in_ok-check_table.ensures in
    let e5 = past_memory m e4 c.in_ok-check_memory.ensures in
    let p = err_from_is_err_and c.from_residual-in_err-check_globals.result c.from_residual-in_err-check_globals.ensures.1 in
    rw (p.1, p.2) (found m _ _ _ e5 c.in_err-check_globals.ensures)

pub returns-in_err-check_exports : goal.returns-in_err-check_exports
returns-in_err-check_exports c =
    let m = tree c.args.m.now in
    let e0 = all_around m in
    let e1 = past_types m e0 c.in_ok-check_types.ensures in
    let e2 = past_imports m e1 c.in_ok-check_imports.ensures in
    let e3 = past_functions m e2 c.in_ok-check_functions.ensures in
    let e4 = past_table m e3 c.in_ok-check_table.ensures in
    let e5 = past_memory m e4 c.in_ok-check_memory.ensures in
    let e6 = past_globals m e5 c.in_ok-check_globals.ensures in
    let p = err_from_is_err_and c.from_residual-in_err-check_exports.result c.from_residual-in_err-check_exports.ensures.1 in
    rw (p.1, p.2) (found_or_short m _ _ _ e6 c.in_err-check_exports.ensures)

pub returns-in_err-check_start : goal.returns-in_err-check_start
returns-in_err-check_start c =
    let m = tree c.args.m.now in
    let e0 = all_around m in
    let e1 = past_types m e0 c.in_ok-check_types.ensures in
    let e2 = past_imports m e1 c.in_ok-check_imports.ensures in
    let e3 = past_functions m e2 c.in_ok-check_functions.ensures in
    let e4 = past_table m e3 c.in_ok-check_table.ensures in
    let e5 = past_memory m e4 c.in_ok-check_memory.ensures in
    let e6 = past_globals m e5 c.in_ok-check_globals.ensures in
    let e7 = past_exports m e6 c.in_ok-check_exports.ensures in
    let p = err_from_is_err_and c.from_residual-in_err-check_start.result c.from_residual-in_err-check_start.ensures.1 in
    rw (p.1, p.2) (found m _ _ _ e7 c.in_err-check_start.ensures)

pub returns-in_err-check_elements : goal.returns-in_err-check_elements
returns-in_err-check_elements c =
    let m = tree c.args.m.now in
    let e0 = all_around m in
    let e1 = past_types m e0 c.in_ok-check_types.ensures in
    let e2 = past_imports m e1 c.in_ok-check_imports.ensures in
    let e3 = past_functions m e2 c.in_ok-check_functions.ensures in
    let e4 = past_table m e3 c.in_ok-check_table.ensures in
    let e5 = past_memory m e4 c.in_ok-check_memory.ensures in
    let e6 = past_globals m e5 c.in_ok-check_globals.ensures in
    let e7 = past_exports m e6 c.in_ok-check_exports.ensures in
    let e8 = past_start m e7 c.in_ok-check_start.ensures in
    let p = err_from_is_err_and c.from_residual-in_err-check_elements.result c.from_residual-in_err-check_elements.ensures.1 in
    rw (p.1, p.2) (found m _ _ _ e8 c.in_err-check_elements.ensures)

pub returns : goal.returns
returns c =
    let m = tree c.args.m.now in
    let e0 = all_around m in
    let e1 = past_types m e0 c.in_ok-check_types.ensures in
    let e2 = past_imports m e1 c.in_ok-check_imports.ensures in
    let e3 = past_functions m e2 c.in_ok-check_functions.ensures in
    let e4 = past_table m e3 c.in_ok-check_table.ensures in
    let e5 = past_memory m e4 c.in_ok-check_memory.ensures in
    let e6 = past_globals m e5 c.in_ok-check_globals.ensures in
    let e7 = past_exports m e6 c.in_ok-check_exports.ensures in
    let e8 = past_start m e7 c.in_ok-check_start.ensures in
    let e9 = past_elements m e8 c.in_ok-check_elements.ensures in
    last m c.check_segments.result e9 c.check_segments.ensures
