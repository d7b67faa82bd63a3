use Rattle.std.proofs.Common.{◌≡◌, fold, take}
use Rattle.ctw_link.specs.Numbers.{LinkedModule}
use Rattle.ctw_launch.specs.Launched.{with_element}
use Rattle.ctw_session.specs.Segments.{IsLinkedPart, IsLoading}
use Rattle.ctw_session.proofs.segments.write_part_elements.Given as goal

abbrev pub invariant-elements : goal.invariant-elements
invariant-elements l = record {
  loading : IsLoading l.set l.store.storage;
  written : (p : LinkedModule) → IsLinkedPart l.set l.part p → l.store.storage ≡ fold (with_element p) l.fn.store.storage (take l.index p.tree.elements);
}
