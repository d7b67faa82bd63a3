use Rattle.std.proofs.Common.{List, ◌++◌, ap, ◌∙◌}
use Rattle.ctw_ops.specs.declared.types.Label.{Label}
use Rattle.ctw_ops.specs.Tree.{Import}
use Rattle.ctw_text.specs.Names.{import_of}
use Rattle.ctw_names.specs.Spaces.{space_in}
use Rattle.ctw_names.proofs.Walks.{flat_then}
use Rattle.ctw_names.proofs.imports.imports.Goals as goal

pub fields-preserved : goal.fields-preserved
fields-preserved c =
    let give = import_of (space_in c.args.space.now) in
    let x = c.at.result.now in
    c.in_ok-add_import.ensures ∙ ap (λ (l : List (Import Label)). l ++ give x) c.fields.invariant ∙ flat_then c.args.fields.now c.fields.i x c.at.ensures give
