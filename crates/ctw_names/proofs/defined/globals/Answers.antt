use Rattle.std.proofs.Common.{List, [], ◌∷◌, ◌++◌, ◌&&◌, map, ap, ◌∙◌}
use Rattle.std.specs.Prelude.{not}
use Rattle.ctw_ops.specs.declared.types.ExternTag.TheVariants.{Global}
use Rattle.ctw_ops.specs.declared.types.Label.{Label}
use Rattle.ctw_ops.specs.Tree as tree
use Rattle.ctw_text.specs.declared.fields.Field.{Field}
use Rattle.ctw_text.specs.declared.pieces.FieldKind.TheVariants.{Defining}
use Rattle.ctw_text.specs.Names.{defined, is_import, is_kind, global_of}
use Rattle.ctw_names.specs.Spaces.{space_in}
use Rattle.ctw_names.proofs.Walks.{mapped_then}
use Rattle.ctw_names.proofs.defined.globals.Goals as goal

pub fields-preserved : goal.fields-preserved
fields-preserved c =
    let give = global_of (space_in c.args.space.now) in
    let x = c.at.result.now in
    c.in_ok-add_global.ensures ∙ ap (λ (l : List (tree.Global Label)). l ++ map give (defined Global (x ∷ []))) c.fields.invariant
    ∙ mapped_then c.args.fields.now c.fields.i x c.at.ensures (λ (f : Field). is_kind (Defining Global) f && not (is_import f)) give
