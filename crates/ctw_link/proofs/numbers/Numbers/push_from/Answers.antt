use Rattle.std.proofs.Common.{◌+◌, ◌≡◌, arith}
use Rattle.ctw_link.proofs.Pushes.{pushed_none, pushed_more, pushed_all}
use Rattle.ctw_link.proofs.numbers.Numbers.push_from.Goals as goal

pub numbers-init : goal.numbers-init
numbers-init c = pushed_none c.args.self.now c.args.tag c.args.first

pub numbers-preserved : goal.numbers-preserved
numbers-preserved c = pushed_more c.args.self.now c.numbers.self c.push.new.self c.args.tag c.args.first c.numbers.number c.in_ok-push.ensures c.numbers.invariant

pub returns : goal.returns
returns c =
    let e : c.numbers.number ≡ c.args.first + c.args.count = omega arith in
    pushed_all c.args.self.now c.numbers.self c.args.tag c.args.first c.numbers.number c.args.count e c.numbers.invariant
