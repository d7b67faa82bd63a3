use Rattle.ctw_module.specs.Trees.{tree}
use Rattle.ctw_write.proofs.Running.{RunsAt}
use Rattle.ctw_write.proofs.entry.put_locals.Given as goal

-- the first locals are in groups and a run
abbrev pub invariant-loop-i : goal.invariant-loop-i
invariant-loop-i l = RunsAt (tree l.m) l.f l.i l.texts.items l.run
