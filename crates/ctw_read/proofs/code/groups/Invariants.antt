use Rattle.std.proofs.Common.{◌≤◌, ◌-◌}
use Rattle.ctw_ops.specs.Limits.{most_locals, most_locals_of_all}
use Rattle.ctw_read.proofs.CodeLoops.{Grouped}
use Rattle.ctw_read.proofs.code.groups.Given as goal

abbrev pub invariant-groups : goal.invariant-groups
invariant-groups l = record {
  left : Grouped l.ct l.count l.initial.all l.initial.cursor (l.count - l.counter) l.own l.all l.cursor;
  own : l.own ≤ most_locals;
  all : l.all ≤ most_locals_of_all;
}
