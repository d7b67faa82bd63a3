use Rattle.ctw_session.proofs.Checking.{InsideBefore}
use Rattle.ctw_session.proofs.segments.check_segments.Given as goal

abbrev pub invariant-parts : goal.invariant-parts
invariant-parts l = InsideBefore l.set l.store.storage l.part
