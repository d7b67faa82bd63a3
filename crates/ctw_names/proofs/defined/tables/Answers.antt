use Rattle.std.proofs.Common.{List, [], ◌∷◌, ◌++◌, ◌&&◌, map, ap, ◌∙◌}
use Rattle.std.specs.Prelude.{not}
use Rattle.ctw_ops.specs.declared.types.ExternTag.TheVariants.{Table}
use Rattle.ctw_ops.specs.declared.types.Limits.{Limits}
use Rattle.ctw_text.specs.declared.fields.Field.{Field}
use Rattle.ctw_text.specs.declared.pieces.FieldKind.TheVariants.{Defining}
use Rattle.ctw_text.specs.Names.{defined, is_import, is_kind, table_limits}
use Rattle.ctw_names.proofs.Walks.{mapped_then}
use Rattle.ctw_names.proofs.defined.tables.Goals as goal

pub fields-preserved : goal.fields-preserved
fields-preserved c =
    let give = λ (f : Field). table_limits f.draft in
    let x = c.at.result.now in
    c.in_ok-add_table.ensures ∙ ap (λ (l : List Limits). l ++ map give (defined Table (x ∷ []))) c.fields.invariant
    ∙ mapped_then c.args.fields.now c.fields.i x c.at.ensures (λ (f : Field). is_kind (Defining Table) f && not (is_import f)) give
