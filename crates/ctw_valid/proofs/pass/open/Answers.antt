use Rattle.std.proofs.Common.{◌<◌, length, reverse, ◌∙◌, rules}
use Rattle.std.proofs.lemmas.List.{length-reverse}
use Rattle.ctw_valid.proofs.LevelLaws.{opens_inside}
use Rattle.ctw_valid.proofs.pass.open.Goals as goal

pub returns-clause-step : goal.returns-clause-step
returns-clause-step c =
    let s = c.args.levels.now in
    let o : 0 < length c.args.levels.now.stack = search rules in
    λ C. opens_inside C c.args.loops c.args.yields (reverse s.arms.items) s.stack (length-reverse s.arms.items ∙ c.requires.even) o ∙ c.in_ok-open_block.ensures.step
