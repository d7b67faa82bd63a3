use Rattle.std.proofs.Common.{arith, sym}
use Rattle.ctw_ops.specs.Tree.{function_entries}
use Rattle.ctw_module.specs.Trees.{tree}
use Rattle.ctw_modcheck.proofs.Items.{names_there, names_past}
use Rattle.ctw_modcheck.proofs.Loops.{tested_more, tested_fails}
use Rattle.ctw_modcheck.proofs.segments.has_functions.Goals as goal

pub returns-then-func-func_count : goal.returns-then-func-func_count
returns-then-func-func_count c = sym (tested_fails _ _ 0 _ _ c.func.ensures (names_past (function_entries (tree c.args.m.now)) c.func.result (omega arith)) c.functions.invariant)

pub functions-preserved : goal.functions-preserved
functions-preserved c = tested_more _ _ 0 _ _ c.func.ensures (names_there (function_entries (tree c.args.m.now)) c.func.result (omega arith)) c.functions.invariant
