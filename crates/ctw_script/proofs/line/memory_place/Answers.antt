use Rattle.std.proofs.Common.{inl, inr, arith}
use Rattle.std.proofs.lemmas.Bool.{ltb-true, ltb-false}
use Rattle.ctw_script.proofs.TokenShapes.{place_none}
use Rattle.ctw_script.proofs.line.memory_place.Goals as goal
use Rattle.ctw_script.proofs.line.memory_place.Goals.{in_default-via-then-rest-lt4, in_default-via-else-rest-lt4+else-rest-lt5}

pub returns-in_default : goal.returns-in_default
returns-in_default c = elim c.in_default.branch [
  | in_default-via-then-rest-lt4 w ↦ place_none c.args.rest.now (inl (omega (arith, ltb-true, ltb-false)))
  | in_default-via-else-rest-lt4+else-rest-lt5 w ↦ place_none c.args.rest.now (inr (omega (arith, ltb-true, ltb-false)))
]
