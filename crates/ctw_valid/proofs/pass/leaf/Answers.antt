use Rattle.ctw_ops.specs.Code.{Plain, Load, Store}
use Rattle.ctw_valid.specs.Scope.{scope}
use Rattle.ctw_valid.specs.Tables.{labels_in}
use Rattle.ctw_valid.proofs.pass.leaf.Goals as goal

pub returns-in-Load-clause-step : goal.returns-in-Load-clause-step
returns-in-Load-clause-step c =
    let listed = rw c.in-Load.is at c.requires.exactly in
    rw c.in-Load.is (c.follow-in-Load.ensures.step (scope c.args.around.now (labels_in c.args.stack.now)) (Plain (Load c.in-Load.width c.in-Load.label c.in-Load.bytes c.in-Load.signed c.in-Load.align c.in-Load.offset)) (c.load-row.ensures c.in-Load.signed c.in-Load.offset listed))

pub returns-in-Store-clause-step : goal.returns-in-Store-clause-step
returns-in-Store-clause-step c =
    let exactly = rw c.in-Store.is at c.requires.exactly in
    rw c.in-Store.is (c.follow-in-Store.ensures.step (scope c.args.around.now (labels_in c.args.stack.now)) (Plain (Store c.in-Store.width c.in-Store.label c.in-Store.bytes c.in-Store.align c.in-Store.offset)) (c.store-row.ensures c.in-Store.offset exactly.1))
