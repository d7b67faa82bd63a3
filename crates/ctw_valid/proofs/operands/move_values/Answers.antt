use Rattle.std.proofs.Common.{sym, ◌∙◌, ap}
use Rattle.std.proofs.lemmas.Result.{err_from_is_err_and}
use Rattle.ctw_stack.specs.Steps.{expects}
use Rattle.ctw_valid.specs.Faults.{same_label, by_type}
use Rattle.ctw_valid.specs.Rows.{top_types, move_below}
use Rattle.ctw_valid.proofs.OnStack.{then_same}
use Rattle.ctw_valid.proofs.operands.move_values.Goals as goal

pub returns-in_err-move_rest-clause-step : goal.returns-in_err-move_rest-clause-step
returns-in_err-move_rest-clause-step c =
    let m = c.args.row.now in
    let t = then_same (expects same_label (top_types m.index m.last)) (move_below m) c.args.stack.now c.take_top.new.stack c.in_ok-take_top.ensures.step in
    let p = err_from_is_err_and c.from_residual-in_err-move_rest.result c.from_residual-in_err-move_rest.ensures.1 in
    rw (p.1, p.2) (λ n. let q = c.in_err-move_rest.ensures.step n in (t ∙ q.0, q.1 ∙ ap (by_type c.args.at) (sym c.in_ok-take_top.ensures.public)))

pub returns-clause-step : goal.returns-clause-step
returns-clause-step c =
    let m = c.args.row.now in
    then_same (expects same_label (top_types m.index m.last)) (move_below m) c.args.stack.now c.take_top.new.stack c.in_ok-take_top.ensures.step ∙ c.in_ok-move_rest.ensures.step
