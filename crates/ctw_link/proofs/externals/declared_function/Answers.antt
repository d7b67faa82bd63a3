use Rattle.ctw_module.specs.Trees.{view_module}
use Rattle.ctw_link.proofs.ValidParts.{function_typed}
use Rattle.ctw_link.proofs.externals.declared_function.Goals as goal

pub func_type-requires : goal.func_type-requires
func_type-requires c = function_typed (view_module c.args.m.now) c.args.index c.type_of_func-type_index.result c.requires c.type_of_func-type_index.ensures
