use Rattle.std.proofs.Common.{List, [], ◌∷◌, ◌++◌, ap, ◌∙◌}
use Rattle.ctw_text.specs.declared.fields.Field.{Field}
use Rattle.ctw_text.specs.declared.pieces.FieldKind.TheVariants.{TypeField}
use Rattle.ctw_text.specs.Names.{Spelled, is_kind, spelled_type}
use Rattle.ctw_names.specs.Spaces.{type_entries_of}
use Rattle.ctw_names.proofs.Walks.{mapped_then}
use Rattle.ctw_names.proofs.space.type_entries.Goals as goal

pub fields-preserved : goal.fields-preserved
fields-preserved c =
    let x = c.at.result.now in
    c.in_ok-add_entry.ensures ∙ ap (λ (l : List Spelled). l ++ type_entries_of (x ∷ [])) c.fields.invariant
    ∙ mapped_then c.args.fields.now c.fields.i x c.at.ensures (is_kind TypeField) (λ (f : Field). spelled_type f.draft.sig)
