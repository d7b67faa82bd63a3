use Rattle.ctw_module.specs.Trees.{tree}
use Rattle.ctw_valid.proofs.Scope.{function_none, function_some, typed_entry}
use Rattle.ctw_valid.proofs.around.Around.function.Goals as goal

pub returns-then-index-func_count : goal.returns-then-index-func_count
returns-then-index-func_count c = function_none c.args.self.now c.args.index c.func_count.result c.func_count.ensures c.if-index-func_count.true

pub func_type-requires : goal.func_type-requires
func_type-requires c = typed_entry (tree c.args.self.now.whole.now) c.args.index c.type_of_func.result c.args.self.now.typed c.type_of_func.ensures

pub returns : goal.returns
returns c = function_some c.args.self.now c.args.index c.type_of_func.result c.func_type.result c.type_of_func.ensures c.func_type.ensures
