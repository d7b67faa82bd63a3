use Rattle.std.proofs.Common.{◌≡◌, true, length}
use Rattle.ctw_ops.specs.declared.types.Label.{Label}
use Rattle.ctw_ops.specs.Typing.{Context}
use Rattle.ctw_valid.specs.Tables.{labels_in, fit}
use Rattle.ctw_valid.proofs.tables.fit_targets.Given as goal

-- the targets that are left, with what is known of the others, tell of all
abbrev pub invariant-targets : goal.invariant-targets
invariant-targets l = (C : Context Label) → C.labels ≡ labels_in l.stack → fit C l.t l.fits l.targets ≡ fit C l.t true l.initial.targets

abbrev pub decreases-targets : goal.decreases-targets
decreases-targets l = length l.targets
