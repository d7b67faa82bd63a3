use Rattle.std.proofs.Common.{inr}
use Rattle.ctw_link.specs.Sets.{set_of}
use Rattle.ctw_link.proofs.SizeSums.{entries_none, entries_some}
use Rattle.ctw_link.proofs.sizes.check_entries.Goals as goal

pub returns-then-entries-gt-MOST_ENTRIES-clause-fault : goal.returns-then-entries-gt-MOST_ENTRIES-clause-fault
returns-then-entries-gt-MOST_ENTRIES-clause-fault c = inr (entries_some (set_of c.args.parts.now) c.entries_of_all-entries.result c.entries_of_all-entries.ensures c.if-entries-gt-MOST_ENTRIES.true)

pub returns-clause-fault : goal.returns-clause-fault
returns-clause-fault c = entries_none (set_of c.args.parts.now) c.entries_of_all-entries.result c.entries_of_all-entries.ensures c.if-entries-gt-MOST_ENTRIES.false
