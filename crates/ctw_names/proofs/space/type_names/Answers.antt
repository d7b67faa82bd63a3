use Rattle.std.proofs.Common.{List, [], ◌∷◌, ◌++◌, take, ap, ◌∙◌}
use Rattle.std.specs.Prelude.{Option, filter}
use Rattle.ctw_text.specs.Written.{Name}
use Rattle.ctw_text.specs.declared.fields.Field.{Field}
use Rattle.ctw_text.specs.declared.pieces.FieldKind.TheVariants.{TypeField}
use Rattle.ctw_text.specs.Names.{NameFault, field_names, type_fields, is_kind}
use Rattle.ctw_names.specs.Noted.{noted}
use Rattle.ctw_names.specs.Doubles.{doubles_onto}
use Rattle.ctw_names.proofs.Walks.{doubles_then, doubles_whole, mapped_then, walked}
use Rattle.ctw_names.proofs.space.type_names.Goals as goal

pub fields-preserved : goal.fields-preserved
fields-preserved c =
    let p = is_kind TypeField in
    let fs = c.args.fields.now in
    let i = c.fields.i in
    let x = c.at.result.now in
    let before = field_names (filter p (take i fs)) in
    let more = field_names (filter p (x ∷ [])) in
    let one = mapped_then fs i x c.at.ensures p (λ (f : Field). f.draft.name) in (
      c.in_ok-add_type.ensures.names ∙ ap (λ (l : List (Option Name)). l ++ more) c.fields.invariant.0 ∙ one,
      c.in_ok-add_type.ensures.faults ∙ ap (λ (l : List (Option Name)). noted c.fields.faults (doubles_onto l more)) c.fields.invariant.0
          ∙ ap (λ (b : Option NameFault). noted b (doubles_onto before more)) c.fields.invariant.1
          ∙ doubles_then before more [] c.args.faults.now ∙ ap (λ (l : List (Option Name)). noted c.args.faults.now (doubles_onto [] l)) one,
    )

pub returns-clause-faults : goal.returns-clause-faults
returns-clause-faults c =
    let all = walked c.args.fields.now c.fields.i c.len-i-end.ensures c.fields-test.false in
    c.fields.invariant.1 ∙ ap (λ (fs : List Field). noted c.args.faults.now (doubles_onto [] (field_names (type_fields fs)))) all
    ∙ doubles_whole (field_names (type_fields c.args.fields.now)) c.args.faults.now
