use Rattle.std.proofs.Common.{sym, subst}
use Rattle.ctw_link.specs.Linked.{CanBeLinked}
use Rattle.ctw_module_tests.proofs.Linkable.{linkable}
use Rattle.ctw_module_tests.proofs.linked_sets.linked.Goals as goal

pub link-requires : goal.link-requires
link-requires g c =
    let items = rw c.expect-parts.ensures at c.vec.ensures.items in
    subst CanBeLinked (sym items) (linkable _ _ c.requires.first c.requires.second)
