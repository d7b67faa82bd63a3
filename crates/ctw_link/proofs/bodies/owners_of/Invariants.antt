use Rattle.ctw_link.proofs.OwnerLists.{OwnersFound}
use Rattle.ctw_link.proofs.bodies.owners_of.Given as goal

abbrev pub invariant-parts : goal.invariant-parts
invariant-parts l = OwnersFound l.parts l.k l.found.items
