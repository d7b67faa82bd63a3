use Rattle.std.proofs.Common.{reverse, ◌∙◌}
use Rattle.std.proofs.lemmas.List.{length-reverse}
use Rattle.ctw_flat.specs.Instructions.{op_of}
use Rattle.ctw_valid.proofs.LevelLaws.{passes_leaf}
use Rattle.ctw_valid.proofs.pass.pass_leaf.Goals as goal

pub returns-clause-step : goal.returns-clause-step
returns-clause-step c =
    let s = c.args.levels.now in
    passes_leaf c.args.around.now (op_of c.args.instr.now) c.args.at c.leaf.result (reverse s.arms.items) s.stack c.leaf.new.stack (length-reverse s.arms.items ∙ c.requires.even) c.leaf.ensures.step
