use Rattle.std.proofs.Common.{reverse, ◌∙◌}
use Rattle.std.proofs.lemmas.List.{length-reverse}
use Rattle.std.proofs.lemmas.Result.{err_from_is_err_and}
use Rattle.ctw_valid.proofs.LevelLaws.{if_refused, if_passed, if_kind}
use Rattle.ctw_valid.proofs.pass.open_if.Goals as goal

pub returns-in_err-take_index-clause-step : goal.returns-in_err-take_index-clause-step
returns-in_err-take_index-clause-step c =
    let s = c.args.levels.now in
    let even = length-reverse s.arms.items ∙ c.requires.even in
    let p = err_from_is_err_and c.from_residual.result c.from_residual.ensures.1 in
    λ a. rw (p.1, p.2)
    (λ n. let k = c.in_err-take_index.ensures.step n in
    (if_refused a c.args.yields (reverse s.arms.items) s.stack even k.0, k.1 ∙ if_kind a c.args.yields c.args.at (reverse s.arms.items) s.stack even))

pub returns-clause-step : goal.returns-clause-step
returns-clause-step c =
    let s = c.args.levels.now in
    let even = length-reverse s.arms.items ∙ c.requires.even in
    λ a. if_passed a c.args.yields (reverse s.arms.items) s.stack c.take_index.new.stack even c.in_ok-take_index.ensures.step ∙ c.in_ok-open_block.ensures.step
