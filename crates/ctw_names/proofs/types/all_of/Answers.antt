use Rattle.std.proofs.Common.{List, [], ◌∷◌, ◌++◌, ap, sym, ◌∙◌}
use Rattle.ctw_ops.specs.declared.types.Label.{Label}
use Rattle.ctw_ops.specs.ValueType.{ValueType}
use Rattle.ctw_names.proofs.Noting.{take_get}
use Rattle.ctw_names.proofs.types.all_of.Goals as goal

pub types-preserved : goal.types-preserved
types-preserved c =
    c.in_ok-push.ensures.items ∙ ap (λ (l : List (ValueType Label)). l ++ c.at.result.now ∷ []) c.types.invariant
    ∙ sym (take_get c.args.list.now c.types.i c.at.result.now c.at.ensures)
