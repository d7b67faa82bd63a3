use Rattle.std.proofs.Common.{◌∙◌, sym, ap}
use Rattle.ctw_flat.specs.Instructions.{op_of}
use Rattle.ctw_ops.specs.Tree.{type_named}
use Rattle.ctw_module.specs.Trees.{view_module}
use Rattle.ctw_labels.specs.declared.name.SiteName.TheVariants.{IParam, IResult}
use Rattle.ctw_labels.proofs.Contexts.{type_length}
use Rattle.ctw_sites.specs.Leaves.{own_count}
use Rattle.ctw_place.specs.Walks.{place_under}
use Rattle.ctw_place.proofs.pass.own_sites.Goals as goal

pub returns-in-CallIndirect : goal.returns-in-CallIndirect
returns-in-CallIndirect c = λ p.
    c.user_sites.ensures.count
    ∙ sym (type_length (IParam c.args.around.now.f 0) (IResult c.args.around.now.f 0) (type_named (view_module c.args.around.now.whole.now) c.in-CallIndirect.index))
    ∙ ap (λ z. own_count (place_under p c.args.around.now) (op_of z)) (sym c.in-CallIndirect.is)
