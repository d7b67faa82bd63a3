-- The numbers from the place on so far are one greater.
use Rattle.std.proofs.Common.{◌≡◌, ◌≤◌, ◌-◌, suc, ◌++◌, map, take, drop}
use Rattle.ctw_flow.proofs.graph.shift.Given as goal

abbrev pub invariant-numbers : goal.invariant-numbers
invariant-numbers l = record {
  from : l.from ≤ l.i;
  later : l.numbers.items ≡ take l.from l.fn.numbers.items ++ (map suc (take (l.i - l.from) (drop l.from l.fn.numbers.items)) ++ drop l.i l.fn.numbers.items);
}
