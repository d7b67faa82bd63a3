use Rattle.std.proofs.Common.{◌≡◌, ◌-◌, slice_get}
use Rattle.ctw_flat.proofs.targets.Targets.target.Given as goal

-- what is looked for stands so many places behind the targets that were passed
abbrev pub invariant-skipped : goal.invariant-skipped
invariant-skipped l = slice_get l.self (l.k - l.counter) ≡ slice_get l.initial.self l.k
