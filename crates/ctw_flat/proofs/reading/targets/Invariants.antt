use Rattle.std.proofs.Common.{◌-◌}
use Rattle.ctw_leb.proofs.Loops.{Left}
use Rattle.ctw_flat.specs.Read.{index_at}
use Rattle.ctw_flat.proofs.reading.targets.Given as goal

-- the targets that were read, with those that are left, are all of them
abbrev pub invariant-targets : goal.invariant-targets
invariant-targets l = Left index_at l.count l.initial.cursor (l.count - l.counter) l.cursor
