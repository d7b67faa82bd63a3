use Rattle.std.proofs.Common.{◌≡◌, length, slice_get}
use Rattle.ctw_ops.specs.Tree.{function_entries}
use Rattle.ctw_module.specs.Trees.{tree}
use Rattle.ctw_link.specs.Users.{with_entry}
use Rattle.ctw_link.proofs.Folding.{Filtered}
use Rattle.ctw_link.proofs.users.EntriesUsed.take_element.Given as goal

abbrev pub invariant-functions : goal.invariant-functions
invariant-functions l = record {
  taken : Filtered with_entry (slice_get (function_entries (tree l.m))) l.element.functions l.fn.self.entries.items l.self.entries.items l.k;
  count : length l.self.seen.items ≡ length l.fn.self.seen.items;
}
