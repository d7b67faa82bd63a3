use Rattle.std.proofs.Common.{List, [], ◌∷◌, ◌++◌, take, ap, ◌∙◌}
use Rattle.std.specs.Prelude.{Option}
use Rattle.ctw_text.specs.Written.{Name}
use Rattle.ctw_text.specs.declared.fields.Variable.{Variable}
use Rattle.ctw_text.specs.Names.{names_in}
use Rattle.ctw_names.proofs.Walks.{map_then}
use Rattle.ctw_names.proofs.locals.names.Goals as goal

pub variables-preserved : goal.variables-preserved
variables-preserved c =
    let vs = c.args.variables.now in
    c.in_ok-add.ensures.names ∙ ap (λ (t : List (Option Name)). t ++ c.again.result ∷ []) c.variables.invariant
    ∙ ap (λ (m : Option Name). names_in (take c.variables.i vs) ++ m ∷ []) c.again.ensures ∙ map_then vs c.variables.i c.at.result.now c.at.ensures (λ (v : Variable). v.name)
