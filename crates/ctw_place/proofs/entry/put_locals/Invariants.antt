use Rattle.ctw_place.specs.Settings.{module_of, labels_of}
use Rattle.ctw_write.proofs.Running.{RunsAt}
use Rattle.ctw_place.proofs.LocalLaws.{alone, under}
use Rattle.ctw_place.proofs.entry.put_locals.Given as goal

-- the first locals are in groups and a run
abbrev pub invariant-loop-i : goal.invariant-loop-i
invariant-loop-i l = RunsAt (alone (module_of l.setting) (under (module_of l.setting) (labels_of l.setting) l.f l.n)) 0 l.i l.texts.items l.run
