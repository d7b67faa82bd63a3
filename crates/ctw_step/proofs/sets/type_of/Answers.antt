use Rattle.std.proofs.Common.{ap, ◌∙◌}
use Rattle.ctw_ops.specs.Tree.{type_named}
use Rattle.ctw_module.specs.Trees.{tree}
use Rattle.ctw_step.proofs.Homes.{named_there, entry_within, same_entry}
use Rattle.ctw_step.proofs.sets.type_of.Goals as goal

pub func_type-requires : goal.func_type-requires
func_type-requires c =
    let m = tree c.args.home.now in
    let f = named_there m c.args.index c.requires.low c.requires.high in
    entry_within m c.args.index f.0 c.type_of_func.result c.requires.valid.around.functions f.1 c.requires.low c.type_of_func.ensures

pub returns : goal.returns
returns c = λ f e.
    let m = tree c.args.home.now in
    c.func_type.ensures ∙ ap (λ i. type_named m i) (same_entry m c.args.index c.type_of_func.result f e c.requires.low c.type_of_func.ensures)
