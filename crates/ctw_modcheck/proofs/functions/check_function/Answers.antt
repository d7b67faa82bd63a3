use Rattle.std.proofs.Common.{arith}
use Rattle.ctw_module.specs.Trees.{tree}
use Rattle.ctw_modcheck.proofs.Counts.{function_at}
use Rattle.ctw_modcheck.proofs.Items.{function_missing, function_there}
use Rattle.ctw_modcheck.proofs.functions.check_function.Goals as goal

pub returns-then-type_of_func-type_count : goal.returns-then-type_of_func-type_count
returns-then-type_of_func-type_count c =
    let m = tree c.args.m.now in
    let here = function_at m c.args.f c.args.i c.type_of_func.result c.requires.named c.requires.there c.type_of_func.ensures in
    function_missing m c.args.i c.type_of_func.result here (omega arith)

pub returns : goal.returns
returns c =
    let m = tree c.args.m.now in
    let here = function_at m c.args.f c.args.i c.type_of_func.result c.requires.named c.requires.there c.type_of_func.ensures in
    function_there m c.args.i c.type_of_func.result here (omega arith)
