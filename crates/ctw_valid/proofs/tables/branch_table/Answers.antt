use Rattle.std.proofs.Common.{true, refl, sym, ap, ◌∙◌}
use Rattle.ctw_flat.specs.Instructions.{targets_in}
use Rattle.ctw_valid.specs.Scope.{scope}
use Rattle.ctw_valid.specs.Tables.{labels_in, fit}
use Rattle.ctw_valid.proofs.RowLaws.{table_row, no_table}
use Rattle.ctw_valid.proofs.tables.branch_table.Goals as goal

pub returns-in-Some-fit_targets : goal.returns-in-Some-fit_targets
returns-in-Some-fit_targets c =
    let labels = labels_in c.args.stack.now in
    rw c.ending.ensures
    (table_row c.args.around.now labels (targets_in c.args.count c.args.targets.now) c.args.otherwise c.in-Some.t c.in-Some-fit_targets.fits
    (sym c.carried.ensures ∙ c.in-Some.is) (c.in-Some-fit_targets.ensures (scope c.args.around.now labels) refl ∙ ap (fit (scope c.args.around.now labels) c.in-Some.t true) c.new.ensures.targets))

pub returns-in-None-fit_targets : goal.returns-in-None-fit_targets
returns-in-None-fit_targets c =
    let labels = labels_in c.args.stack.now in
    no_table c.args.around.now labels (targets_in c.args.count c.args.targets.now) c.args.otherwise c.args.at c.in-Some.t (sym c.carried.ensures ∙ c.in-Some.is) (c.in-None-fit_targets.ensures (scope c.args.around.now labels) refl ∙ ap (fit (scope c.args.around.now labels) c.in-Some.t true) c.new.ensures.targets)
