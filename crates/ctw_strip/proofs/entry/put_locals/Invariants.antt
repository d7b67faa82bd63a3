use Rattle.ctw_ops.specs.Erasure.{erase_module}
use Rattle.ctw_module.specs.Trees.{tree}
use Rattle.ctw_write.proofs.Running.{RunsAt}
use Rattle.ctw_strip.proofs.entry.put_locals.Given as goal

-- the first locals of the erased function are in groups and a run
abbrev pub invariant-loop-i : goal.invariant-loop-i
invariant-loop-i l = RunsAt (erase_module (tree l.m)) l.f l.i l.texts.items l.run
