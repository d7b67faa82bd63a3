use Rattle.std.proofs.Common.{◌∙◌, ap, sym, subst, List, ℕ}
use Rattle.ctw_form.specs.Spelled.{Spells}
use Rattle.ctw_write.specs.Canon.{canon}
use Rattle.ctw_script.specs.Scripts.{HasReading}
use Rattle.ctw_gen.specs.Workload.{workload_module, moves}
use Rattle.ctw_gen.proofs.Kept.{module_spelled, module_only}
use Rattle.ctw_gen.proofs.Moves.{script_read}
use Rattle.ctw_gen.proofs.whole.generate.Goals as goal

pub returns-clause-spelled : goal.returns-clause-spelled
returns-clause-spelled c =
    let seed = c.args.seed in
    let size = c.args.size in
    let same = c.new.ensures ∙ c.in_ok-bytes.ensures.bytes ∙ ap (λ (n : ℕ). canon (workload_module n size)) c.new-draws.ensures in
    subst (λ (l : List ℕ). Spells l (workload_module seed size)) (sym same) (module_spelled seed size c.requires.size)

pub returns-clause-only : goal.returns-clause-only
returns-clause-only c m s =
    let size = c.args.size in
    let same = c.new.ensures ∙ c.in_ok-bytes.ensures.bytes ∙ ap (λ (n : ℕ). canon (workload_module n size)) c.new-draws.ensures in
    module_only c.args.seed size m c.requires.size (subst (λ (l : List ℕ). Spells l m) same s)

pub returns-clause-moves : goal.returns-clause-moves
returns-clause-moves c = subst (λ (l : List ℕ). HasReading l moves) (sym (c.new-3.ensures ∙ c.in_ok-from_str-2.ensures.ok)) script_read
