use Rattle.std.proofs.Common.{◌≡◌, ◌++◌, length}
use Rattle.ctw_leb.specs.Spelling.{u32_text}
use Rattle.ctw_write.specs.Canon.{all_texts}
use Rattle.ctw_write.proofs.code.put_targets.Given as goal

-- what is written, with the texts of the targets that are left, is the whole
abbrev pub invariant-targets : goal.invariant-targets
invariant-targets l = l.out.items ++ all_texts u32_text l.targets ≡ l.initial.out.items ++ all_texts u32_text l.initial.targets

abbrev pub decreases-targets : goal.decreases-targets
decreases-targets l = length l.targets
