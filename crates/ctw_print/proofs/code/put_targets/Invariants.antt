use Rattle.std.proofs.Common.{◌≡◌, ◌++◌, length}
use Rattle.std.specs.String.{string_bytes}
use Rattle.ctw_print.specs.Texts.{all_texts, spaced_number}
use Rattle.ctw_print.proofs.code.put_targets.Given as goal

-- what is printed, with the texts of the targets that are left, is the whole
abbrev pub invariant-targets : goal.invariant-targets
invariant-targets l = string_bytes l.out ++ all_texts spaced_number l.targets ≡ string_bytes l.initial.out ++ all_texts spaced_number l.initial.targets

abbrev pub decreases-targets : goal.decreases-targets
decreases-targets l = length l.targets
