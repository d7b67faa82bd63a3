use Rattle.ctw_infer.proofs.MarkedSites.{MarksTaken}
use Rattle.ctw_infer.proofs.marked.marked.Given as goal

abbrev pub invariant-marks : goal.invariant-marks
invariant-marks l = MarksTaken l.s l.marks.labels l.label l.found.items l.i
