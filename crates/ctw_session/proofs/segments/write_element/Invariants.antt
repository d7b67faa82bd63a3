use Rattle.std.proofs.Common.{◌≡◌, map, slice_get, Some}
use Rattle.ctw_ops.specs.declared.types.Label.{Label}
use Rattle.ctw_ops.specs.Tree.{Element}
use Rattle.ctw_semantics.specs.Stores.{Table}
use Rattle.ctw_link.specs.Numbers.{LinkedModule}
use Rattle.ctw_session.specs.Segments.{IsLinkedPart, IsElementOf}
use Rattle.ctw_session.proofs.Loading.{Putting}
use Rattle.ctw_session.proofs.segments.write_element.Given as goal

abbrev pub invariant-functions : goal.invariant-functions
invariant-functions l =
    (p : LinkedModule) (e : Element Label) (t : Table) → IsLinkedPart l.set l.part p → IsElementOf p l.index e → slice_get l.fn.store.storage.tables l.table ≡ Some t
    → Putting l.fn.store.storage l.table t l.at (map (slice_get p.numbers.functions) e.functions) l.i l.store.storage
