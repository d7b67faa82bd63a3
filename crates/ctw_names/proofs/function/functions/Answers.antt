use Rattle.std.proofs.Common.{List, [], ◌∷◌, ◌++◌, ◌&&◌, append_assoc, map, ap, sym, ◌∙◌}
use Rattle.std.specs.Prelude.{Option, not}
use Rattle.std.specs.List.{flat_map}
use Rattle.ctw_ops.specs.declared.types.ExternTag.TheVariants.{Func}
use Rattle.ctw_text.specs.declared.fields.Field.{Field}
use Rattle.ctw_text.specs.declared.pieces.FieldKind.TheVariants.{Defining}
use Rattle.ctw_text.specs.Names.{NameFault, WideFunction, defined, field_faults, function_of, is_import, is_kind}
use Rattle.ctw_names.specs.Noted.{noted}
use Rattle.ctw_names.specs.Spaces.{space_in}
use Rattle.ctw_names.proofs.Noting.{noted_append}
use Rattle.ctw_names.proofs.Walks.{kept_front}
use Rattle.ctw_names.proofs.function.functions.Goals as goal

pub fields-preserved : goal.fields-preserved
fields-preserved c =
    let S = space_in c.args.space.now in
    let give = function_of S in
    let faults = field_faults S in
    let x = c.in-Some.field in
    let rest = c.pop.new.self in
    let old = c.fields.functions.items in
    let left = map give (defined Func rest) in (
      ap (λ (l : List WideFunction). l ++ left) c.in_ok-add_function.ensures.functions ∙ append_assoc old (map give (defined Func (x ∷ []))) left
          ∙ ap (λ (l : List WideFunction). old ++ l) (kept_front (λ (f : Field). is_kind (Defining Func) f && not (is_import f)) give x rest)
          ∙ ap (λ (fs : List Field). old ++ map give (defined Func fs)) (sym c.in-Some.ensures) ∙ c.fields.invariant.0,
      ap (λ (b : Option NameFault). noted b (flat_map faults rest)) c.in_ok-add_function.ensures.faults ∙ sym (noted_append (faults x) (flat_map faults rest) c.fields.faults)
          ∙ ap (λ (fs : List Field). noted c.fields.faults (flat_map faults fs)) (sym c.in-Some.ensures) ∙ c.fields.invariant.1,
    )
