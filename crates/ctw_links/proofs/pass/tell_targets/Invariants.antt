use Rattle.std.specs.Prelude.{◌≡◌, ◌++◌, length}
use Rattle.ctw_links.specs.Asks.{targets_told}
use Rattle.ctw_links.proofs.pass.tell_targets.Given as goal

-- what is told, with what the targets that are left tell, is all
abbrev pub invariant-targets : goal.invariant-targets
invariant-targets l = l.told.items ++ targets_told l.tag l.targets l.stack ≡ l.initial.told.items ++ targets_told l.tag l.initial.targets l.initial.stack

abbrev pub decreases-targets : goal.decreases-targets
decreases-targets l = length l.targets
