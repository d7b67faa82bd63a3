-- The entries so far, followed by those of the marks that are left.
use Rattle.std.proofs.Common.{◌≡◌, ◌++◌, drop}
use Rattle.ctw_flow.specs.Search.{root_entries}
use Rattle.ctw_flow.proofs.search.entries.Given as goal

abbrev pub invariant-loop-i : goal.invariant-loop-i
invariant-loop-i l = l.queue.items ++ root_entries (drop l.i l.seen) l.i ≡ root_entries l.seen 0
