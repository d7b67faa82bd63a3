use Rattle.ctw_workloads.proofs.Marks.{marks_read, never_faulty, labels_are, trust_kept, none_release}
use Rattle.ctw_workloads.proofs.laws.workload_marks_are_read.Goals as goal

pub returns-clause-read : goal.returns-clause-read
returns-clause-read c q seed size = marks_read q seed size

pub returns-clause-faults : goal.returns-clause-faults
returns-clause-faults c q seed size why h = never_faulty q seed size why h

pub returns-clause-labels : goal.returns-clause-labels
returns-clause-labels c q seed size l h = labels_are q seed size l h

pub returns-clause-trust : goal.returns-clause-trust
returns-clause-trust c q seed size l h = trust_kept q seed size l h

pub returns-clause-releases : goal.returns-clause-releases
returns-clause-releases c q seed size l h = none_release q seed size l h
