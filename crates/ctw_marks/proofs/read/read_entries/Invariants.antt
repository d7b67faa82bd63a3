use Rattle.std.specs.Prelude.{◌≤◌, [], drop, length}
use Rattle.ctw_module.specs.Trees.{view_module}
use Rattle.ctw_marks.specs.declared.fault.MarkFault.{MarkFault}
use Rattle.ctw_marks.specs.Pushed.{MayBePushes}
use Rattle.ctw_marks.specs.Readings.{MarkList}
use Rattle.ctw_marks.specs.Taken.{TakesAll, StopsIn}
use Rattle.ctw_marks.proofs.read.read_entries.Given as goal

-- what the lines so far ask for is taken
abbrev pub invariant-entries : goal.invariant-entries
invariant-entries l = record {
  pushes : MayBePushes (view_module l.m) l.pushes;
  few : length l.labels.items ≤ l.entry-index;
  taken : (end : MarkList) → TakesAll (view_module l.m) (drop l.entry-index l.entries) (record { labels = l.labels.items; points = l.points }) end
      → TakesAll (view_module l.m) l.entries (record { labels = []; points = l.initial.points }) end;
  stops : (why : MarkFault) → StopsIn (view_module l.m) (drop l.entry-index l.entries) (record { labels = l.labels.items; points = l.points }) why
      → StopsIn (view_module l.m) l.entries (record { labels = []; points = l.initial.points }) why;
}
