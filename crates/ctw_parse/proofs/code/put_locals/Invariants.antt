use Rattle.ctw_parse.proofs.Grouping.{RunsTo}
use Rattle.ctw_parse.proofs.code.put_locals.Given as goal

-- the first locals are in groups and a run
abbrev pub invariant-loop-i : goal.invariant-loop-i
invariant-loop-i l = RunsTo l.locals l.i l.texts.items l.run
