use Rattle.std.proofs.Common.{◌≡◌, ◌-◌, length}
use Rattle.ctw_link.proofs.CallWalk.{CallsLeft}
use Rattle.ctw_link.proofs.users.EntriesUsed.take_calls.Given as goal

-- the calls before the reached place are taken
abbrev pub invariant-opcodes : goal.invariant-opcodes
invariant-opcodes l = record {
  walk : CallsLeft (length l.fn.self.seen.items) l.body l.place l.fn.self.entries.items l.self.entries.items;
  count : length l.self.seen.items ≡ length l.fn.self.seen.items;
}

abbrev pub decreases-opcodes : goal.decreases-opcodes
decreases-opcodes l = l.end - l.place
