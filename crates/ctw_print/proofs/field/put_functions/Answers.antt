use Rattle.std.proofs.Common.{◌<◌, length, arith}
use Rattle.std.specs.String.{string_bytes}
use Rattle.ctw_module.specs.Trees.{tree}
use Rattle.ctw_print.specs.Texts.{function_lines}
use Rattle.ctw_print.proofs.Listed.{listed_next, item_there}
use Rattle.ctw_print.proofs.Shown.{defined_count, named_at}
use Rattle.ctw_print.proofs.Fitting.{function_fits, aligned}
use Rattle.ctw_print.proofs.field.put_functions.Goals as goal

pub put_function-requires : goal.put_function-requires
put_function-requires c =
    let m = tree c.args.m.now in
    let lt : c.loop-i.i < length m.functions = omega (arith, c.loop-i-test.true, c.func_count.ensures, defined_count m c.imported_count-imported.result c.imported_count-imported.ensures) in
    let a = item_there m.functions c.loop-i.i lt in
    let fits = function_fits m c.loop-i.i a.0 c.requires a.1 in
    (a.0, named_at m c.imported_count-imported.result c.loop-i.i a.0 c.imported_count-imported.ensures a.1, fits.typed, aligned a.0.body fits.code)

pub loop-i-preserved : goal.loop-i-preserved
loop-i-preserved c =
    let m = tree c.args.m.now in
    let lt : c.loop-i.i < length m.functions = omega (arith, c.loop-i-test.true, c.func_count.ensures, defined_count m c.imported_count-imported.result c.imported_count-imported.ensures) in
    let a = item_there m.functions c.loop-i.i lt in
    let put = c.in_ok-put_function.ensures a.0 (named_at m c.imported_count-imported.result c.loop-i.i a.0 c.imported_count-imported.ensures a.1) in
    listed_next function_lines m.functions c.loop-i.i a.0 (string_bytes c.args.out.now) (string_bytes c.loop-i.out) (string_bytes c.put_function.new.out) a.1 put c.loop-i.invariant
