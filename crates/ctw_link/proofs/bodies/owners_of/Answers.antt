use Rattle.ctw_link.proofs.OwnerLists.{owners_all, found_none, found_more, limits_all}
use Rattle.ctw_link.proofs.bodies.owners_of.Goals as goal

pub parts-init : goal.parts-init
parts-init c = found_none c.args.parts.now _ c.new-found.ensures.items

pub parts-preserved : goal.parts-preserved
parts-preserved c =
    let e = c.in_ok-push_owners.ensures in
    found_more c.args.parts.now c.parts.k c.index-parts-k.result c.parts.found.items c.push_owners.new.found.items c.parts-test.true c.index-parts-k.is e.owners e.limits c.parts.invariant

pub returns-clause-owners : goal.returns-clause-owners
returns-clause-owners c = owners_all c.args.parts.now c.parts.k c.parts.found.items c.parts-test.false c.parts.invariant.left

pub returns-clause-limits : goal.returns-clause-limits
returns-clause-limits c = limits_all c.args.parts.now c.parts.k c.parts.found.items c.parts-test.false c.parts.invariant
