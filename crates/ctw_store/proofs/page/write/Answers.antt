use Rattle.std.proofs.Common.{arith}
use Rattle.ctw_store.proofs.Numbers.{access_some}
use Rattle.ctw_store.proofs.Pages.{bytes_long}
use Rattle.ctw_store.proofs.page.write.Goals as goal

pub make-requires-clause-there : goal.make-requires-clause-there
make-requires-clause-there c =
    let s = access_some c.args.count c.requires.access in
    let a = bytes_long c.args.pages.now c.requires.whole in omega arith

pub make-requires-then-at-count-gt65536-clause-there : goal.make-requires-then-at-count-gt65536-clause-there
make-requires-then-at-count-gt65536-clause-there c =
    let s = access_some c.args.count c.requires.access in
    let a = bytes_long c.args.pages.now c.requires.whole in
    let l = c.make.auto.pages in
    omega arith
