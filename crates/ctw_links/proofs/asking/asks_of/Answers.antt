use Rattle.std.proofs.Common.{◌∙◌, sym, ap, arith}
use Rattle.ctw_ops.specs.Types.{value_type}
use Rattle.ctw_flat.specs.Instructions.{op_of}
use Rattle.ctw_labels.specs.declared.tag.Tag.TheVariants.{At}
use Rattle.ctw_labels.specs.FlatSites.{among}
use Rattle.ctw_sites.specs.Leaves.{own_count}
use Rattle.ctw_sites.specs.Scope.{scope, place}
use Rattle.ctw_sites.proofs.LeafLaws.{user_params}
use Rattle.ctw_links.specs.Asks.{alike_asks, numeric_asks, asks_of_op}
use Rattle.ctw_links.proofs.AskLaws.{alike_all}
use Rattle.ctw_links.proofs.asking.asks_of.Goals as goal

pub indirect-requires : goal.indirect-requires
indirect-requires c =
    let P = place c.args.around.now in
    omega (arith, ap (λ z. own_count P (op_of z)) c.in-CallIndirect.is, user_params P c.in-CallIndirect.index, c.requires.room)

pub returns-in-Numeric-clause-asks : goal.returns-in-Numeric-clause-asks
returns-in-Numeric-clause-asks c =
    let P = place c.args.around.now in
    let D = among (scope c.args.around.now) c.args.stack.now in
    let sig = c.signature.result in
    (λ i. alike_asks (c.ask-in-Numeric.ensures i) (c.from.ensures i))
    ∙ alike_all 2 sig.arity (value_type sig.operand (At c.args.n))
    ∙ ap (numeric_asks c.args.n) (sym c.signature.ensures)
    ∙ ap (λ z. asks_of_op P D c.args.n (op_of z)) (sym c.in-Numeric.is)
