use Rattle.ctw_link.proofs.OwnerLists.{OwnedUpto}
use Rattle.ctw_link.proofs.bodies.push_owners.Given as goal

abbrev pub invariant-functions : goal.invariant-functions
invariant-functions l = OwnedUpto l.initial.found.items l.part l.imported l.f l.found.items
