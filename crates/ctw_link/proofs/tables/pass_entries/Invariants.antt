use Rattle.ctw_link.proofs.PassedUsers.{EntriesPassed}
use Rattle.ctw_link.proofs.tables.pass_entries.Given as goal

abbrev pub invariant-entries : goal.invariant-entries
invariant-entries l = EntriesPassed l.parts l.part l.entries l.fn.firsts l.firsts l.entry-index
