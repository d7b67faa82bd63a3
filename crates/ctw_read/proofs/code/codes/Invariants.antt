use Rattle.std.proofs.Common.{◌≤◌, ◌-◌}
use Rattle.ctw_ops.specs.Limits.{most_locals_of_all}
use Rattle.ctw_read.proofs.CodeLoops.{Entered}
use Rattle.ctw_read.proofs.code.codes.Given as goal

abbrev pub invariant-entries : goal.invariant-entries
invariant-entries l = record {
  left : Entered l.ct l.count l.initial.cursor (l.count - l.counter) l.all l.cursor;
  all : l.all ≤ most_locals_of_all;
}
