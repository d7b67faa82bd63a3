use Rattle.std.proofs.Common.{◌≡◌, ◌-◌, take, fold, slice_get, Some}
use Rattle.ctw_module.specs.Lookup.{imported_of}
use Rattle.ctw_ops.specs.declared.types.ExternTag.TheVariants as tag
use Rattle.ctw_link.specs.Sets.{set_of}
use Rattle.ctw_link.specs.Numbers.{LinkedModule, linked}
use Rattle.ctw_session.proofs.Allocating.{with_first_globals}
use Rattle.ctw_session.proofs.allocation.add_globals.Given as goal

abbrev pub invariant-globals : goal.invariant-globals
invariant-globals l =
    (p : LinkedModule) → slice_get (linked (set_of l.set)) l.part ≡ Some p
    → l.store.storage ≡ with_first_globals (l.index - imported_of tag.Global p.tree) p l.fn.store.storage
