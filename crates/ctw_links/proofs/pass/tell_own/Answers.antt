use Rattle.std.proofs.Common.{◌∙◌, ◌++◌, refl, sym, ap}
use Rattle.ctw_ops.specs.declared.numeric.NumSig.{NumSig}
use Rattle.ctw_ops.specs.Numeric.{leaks}
use Rattle.ctw_flat.specs.Instructions.{op_of, targets_in}
use Rattle.ctw_labels.specs.declared.tag.Tag.TheVariants.{At, Fixed}
use Rattle.ctw_labels.specs.FlatSites.{among}
use Rattle.ctw_labels.specs.Links.{after, timed_facts}
use Rattle.ctw_sites.specs.Scope.{scope}
use Rattle.ctw_sites.proofs.Answered.{ok_then}
use Rattle.ctw_links.specs.Asks.{own_facts_of_op, table_told}
use Rattle.ctw_links.proofs.TableFacts.{table_is}
use Rattle.ctw_links.proofs.pass.tell_own.Goals as goal

pub returns-in-BrTable : goal.returns-in-BrTable
returns-in-BrTable c =
    let told = c.args.told.now.items in
    let b = c.args.stack.now in
    let D = among (scope c.args.around.now) b in
    ok_then c.tell_table.result c.tell_table.ensures (λ e. e ∙ (λ i. told ++ table_told c.in-BrTable.otherwise (c.new.ensures.targets i) b)
    ∙ ap (λ z. told ++ z) (table_is D b refl c.in-BrTable.otherwise (targets_in c.in-BrTable.count c.in-BrTable.targets.now))
    ∙ ap (λ z. told ++ own_facts_of_op D c.args.n (op_of z)) (sym c.in-BrTable.is))

pub returns-in-Numeric : goal.returns-in-Numeric
returns-in-Numeric c =
    let told = c.args.told.now.items in
    let D = among (scope c.args.around.now) c.args.stack.now in
    let facts = timed_facts 16 (leaks c.in-Numeric.op D.profile) (At c.args.n) Fixed in
    ok_then c.tell_leak.result c.tell_leak.ensures (λ e. e ∙ ap (λ z. told ++ after z (λ (sig : NumSig). facts)) (sym c.signature.ensures)
    ∙ ap (λ z. told ++ own_facts_of_op D c.args.n (op_of z)) (sym c.in-Numeric.is))
