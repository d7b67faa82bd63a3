use Rattle.std.proofs.Common.{◌≡◌, ◌+◌, ◌-◌, drop}
use Rattle.ctw_text.specs.Names.{last_with}
use Rattle.ctw_names.proofs.customs.last_with.Given as goal

abbrev pub invariant-sections : goal.invariant-sections
invariant-sections l = last_with (l.n - l.at) (l.at + 1) l.last (drop l.at l.has) ≡ last_with l.n 1 0 l.has
