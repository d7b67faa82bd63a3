use Rattle.ctw_session.proofs.Exporting.{NoneBefore}
use Rattle.ctw_session.proofs.exports.part_named.Given as goal

abbrev pub invariant-parts : goal.invariant-parts
invariant-parts l = NoneBefore l.parts l.name l.i
