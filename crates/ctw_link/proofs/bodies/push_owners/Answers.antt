use Rattle.std.proofs.Common.{arith}
use Rattle.ctw_module.specs.Trees.{tree}
use Rattle.ctw_link.proofs.OwnerLists.{owned_none, owned_more, owned_all}
use Rattle.ctw_module.proofs.IndexSpaces.{functions_count}
use Rattle.ctw_link.proofs.bodies.push_owners.Goals as goal

pub functions-init : goal.functions-init
functions-init c = owned_none _ _ _

pub functions-preserved : goal.functions-preserved
functions-preserved c = owned_more _ _ _ c.functions.f c.functions.found.items c.push.new.self.items c.functions.auto.f c.in_ok-push.ensures.items c.functions.invariant

pub returns-clause-owners : goal.returns-clause-owners
returns-clause-owners c =
    owned_all _ _ _ c.functions.f c.functions.found.items (tree c.args.m.now) c.imported_count-imported.ensures (omega (arith, c.functions.auto.f-end, functions_count (tree c.args.m.now))) c.functions.invariant
