use Rattle.std.proofs.Common.{arith}
use Rattle.ctw_store.specs.Pages.{made_in}
use Rattle.ctw_store.proofs.Pages.{bytes_long, one_of_them}
use Rattle.ctw_store.proofs.page.make_all.Goals as goal

pub overflow_add-last : goal.overflow_add-last
overflow_add-last c = let a = bytes_long c.args.pages.now c.requires.whole in omega arith

pub make-requires-clause-there : goal.make-requires-clause-there
make-requires-clause-there c =
    let a = bytes_long c.args.pages.now c.requires.whole in
    let l = c.pages.auto.pages in
    omega arith

pub returns-in_err-make-clause-ready : goal.returns-in_err-make-clause-ready
returns-in_err-make-clause-ready c = λ a.
    let some = c.if-count-eq0.false in
    let low = c.pages.auto.index in
    let high = c.pages-test.true in
    absurd (c.in_err-make.ensures.ready (c.pages.invariant.kept c.pages.index (one_of_them (made_in c.args.pages.now) c.args.at c.args.count c.pages.index a (omega arith) (omega arith) (omega arith))))
