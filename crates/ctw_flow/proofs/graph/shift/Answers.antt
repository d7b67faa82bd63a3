-- Each number is written once.
use Rattle.std.proofs.Common.{◌+◌, ◌<◌, length, set, ◌∙◌, ap, arith}
use Rattle.ctw_flow.proofs.Placing.{later_at}
use Rattle.ctw_flow.proofs.graph.shift.Goals as goal

pub numbers-preserved : goal.numbers-preserved
numbers-preserved c = record {
  from = let f = c.numbers.invariant.from in omega arith;
  later =
      let l : c.numbers.i < length c.args.numbers.now.items = let n = c.len-i-end.ensures in let t = c.numbers-test.true in let o = c.args.numbers.now.ok in omega (arith, n, t, o) in
      ap (λ n. set c.numbers.numbers.items c.numbers.i (n + 1)) c.index_mut.ensures.value ∙ later_at c.args.numbers.now.items c.numbers.numbers.items c.args.from c.numbers.i c.index_mut.result.now c.numbers.invariant.from l c.numbers.invariant.later;
}
