use Rattle.std.specs.Ordering.{nat_cmp}
use Rattle.std.specs.Cmp.Lexicographic.{slice_cmp}
use Rattle.std.specs.BTreeMap.{get_by}
use Rattle.ctw_link.specs.Sets.{set_of}
use Rattle.ctw_link.proofs.NameMaps.{Named}
use Rattle.ctw_link.proofs.names.names_of.Given as goal

abbrev pub invariant-parts : goal.invariant-parts
invariant-parts l = Named (set_of l.parts) (λ name. get_by (λ key. slice_cmp nat_cmp name key.now) l.names) l.i
