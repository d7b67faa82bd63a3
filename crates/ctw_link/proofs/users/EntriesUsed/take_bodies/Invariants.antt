use Rattle.std.proofs.Common.{◌≡◌, ◌-◌, length}
use Rattle.ctw_ops.specs.IndirectCalls.{indirect_calls}
use Rattle.ctw_module.specs.Lookup.{imported_count}
use Rattle.ctw_module.specs.Trees.{tree}
use Rattle.ctw_link.specs.Users.{with_entry}
use Rattle.ctw_link.proofs.Folding.{Folded}
use Rattle.ctw_link.proofs.users.EntriesUsed.take_bodies.Given as goal

abbrev pub invariant-functions : goal.invariant-functions
invariant-functions l = record {
  taken : Folded with_entry (λ f. indirect_calls f.body) (tree l.m).functions l.fn.self.entries.items l.self.entries.items (l.f - imported_count (tree l.m));
  count : length l.self.seen.items ≡ length l.fn.self.seen.items;
}
