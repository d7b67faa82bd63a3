use Rattle.std.proofs.Common.{List, [], ◌∷◌, ◌++◌, map, ap, ◌∙◌}
use Rattle.ctw_text.specs.declared.pieces.FieldKind.TheVariants.{TypeField}
use Rattle.ctw_text.specs.Names.{WideEntry, is_kind, type_fields, type_of}
use Rattle.ctw_names.specs.Spaces.{space_in}
use Rattle.ctw_names.proofs.Walks.{mapped_then}
use Rattle.ctw_names.proofs.entries.spelled_types.Goals as goal

pub fields-preserved : goal.fields-preserved
fields-preserved c =
    let give = type_of (space_in c.args.space.now) in
    let x = c.at.result.now in
    c.in_ok-add_type.ensures ∙ ap (λ (l : List WideEntry). l ++ map give (type_fields (x ∷ []))) c.fields.invariant
    ∙ mapped_then c.args.fields.now c.fields.i x c.at.ensures (is_kind TypeField) give
