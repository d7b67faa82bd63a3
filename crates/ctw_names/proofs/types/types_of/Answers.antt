use Rattle.std.proofs.Common.{List, [], ◌∷◌, ◌++◌, ap, ◌∙◌}
use Rattle.ctw_ops.specs.declared.types.Label.{Label}
use Rattle.ctw_ops.specs.ValueType.{ValueType}
use Rattle.ctw_text.specs.declared.fields.Variable.{Variable}
use Rattle.ctw_names.proofs.Walks.{map_then}
use Rattle.ctw_names.proofs.types.types_of.Goals as goal

pub variables-preserved : goal.variables-preserved
variables-preserved c =
    c.in_ok-push.ensures.items ∙ ap (λ (l : List (ValueType Label)). l ++ c.at.result.now.ty ∷ []) c.variables.invariant
    ∙ map_then c.args.variables.now c.variables.i c.at.result.now c.at.ensures (λ (v : Variable). v.ty)
