use Rattle.std.proofs.Common.{◌≡◌, length, slice_get, filter_map}
use Rattle.ctw_ops.specs.Tree.{function_entries}
use Rattle.ctw_module.specs.Trees.{tree}
use Rattle.ctw_link.specs.Users.{with_entry}
use Rattle.ctw_link.proofs.Folding.{Folded}
use Rattle.ctw_link.proofs.users.EntriesUsed.take_elements.Given as goal

abbrev pub invariant-elements : goal.invariant-elements
invariant-elements l = record {
  taken : Folded with_entry (λ e. filter_map (slice_get (function_entries (tree l.m))) e.functions) (tree l.m).elements l.fn.self.entries.items l.self.entries.items l.i;
  count : length l.self.seen.items ≡ length l.fn.self.seen.items;
}
