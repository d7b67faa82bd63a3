use Rattle.std.proofs.Common.{reverse, ◌∙◌, ap}
use Rattle.std.proofs.lemmas.List.{length-reverse}
use Rattle.std.proofs.lemmas.Result.{err_from_is_err_and}
use Rattle.ctw_valid.proofs.LevelLaws.{part_refused}
use Rattle.ctw_valid.proofs.pass.pass_else.Goals as goal

pub returns-in_err-part-clause-step : goal.returns-in_err-part-clause-step
returns-in_err-part-clause-step c =
    let s = c.args.levels.now in
    let p = err_from_is_err_and c.from_residual.result c.from_residual.ensures.1 in
    λ C. rw (p.1, p.2)
    (λ n. let k = c.in_err-part.ensures.step n in
    (part_refused C (reverse s.arms.items) c.is_arm-arm.result s.stack (length-reverse s.arms.items ∙ c.requires.even) (λ a outer e. c.is_arm-arm.ensures a outer (ap reverse c.as_slice.ensures.value ∙ e)) k.0, k.1))
