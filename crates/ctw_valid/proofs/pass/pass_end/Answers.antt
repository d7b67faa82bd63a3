use Rattle.std.proofs.Common.{Some, reverse, sym, ◌∙◌, ap}
use Rattle.std.proofs.lemmas.List.{length-reverse}
use Rattle.std.proofs.lemmas.Result.{err_from_is_err_and}
use Rattle.ctw_valid.specs.Levels.{levels_of}
use Rattle.ctw_valid.proofs.LevelLaws.{end_refused, end_passed}
use Rattle.ctw_valid.proofs.pass.pass_end.Goals as goal

pub returns-in_err-end-clause-step : goal.returns-in_err-end-clause-step
returns-in_err-end-clause-step c =
    let s = c.args.levels.now in
    let p = err_from_is_err_and c.from_residual.result c.from_residual.ensures.1 in
    λ C. rw (p.1, p.2)
    (λ n. let k = c.in_err-end.ensures.step n in
    (end_refused C (reverse s.arms.items) c.is_arm-arm.result s.stack (length-reverse s.arms.items ∙ c.requires.even) (λ a outer e. c.is_arm-arm.ensures a outer (ap reverse c.as_slice.ensures.value ∙ e)) k.0, k.1))

pub returns-clause-step : goal.returns-clause-step
returns-clause-step c =
    let s = c.args.levels.now in
    λ C. end_passed C (reverse s.arms.items) c.is_arm-arm.result s.stack c.end.new.stack (length-reverse s.arms.items ∙ c.requires.even) (λ a outer e. c.is_arm-arm.ensures a outer (ap reverse c.as_slice.ensures.value ∙ e)) c.in_ok-end.ensures.step
    ∙ ap (λ l. Some (levels_of l c.end.new.stack)) (sym c.drop_arm.ensures.left)
