use Rattle.std.proofs.Common.{List, [], ◌∷◌, ◌++◌, map, take, append_assoc, ap, ◌∙◌}
use Rattle.std.specs.Prelude.{◌==◌, filter}
use Rattle.ctw_ops.specs.Tree.{Custom}
use Rattle.ctw_text.specs.declared.fields.Field.{Field}
use Rattle.ctw_text.specs.declared.pieces.FieldKind.TheVariants.{CustomField}
use Rattle.ctw_text.specs.Names.{custom_of, is_kind}
use Rattle.ctw_names.proofs.Walks.{picked_then}
use Rattle.ctw_names.proofs.customs.add_at.Goals as goal

pub fields-preserved : goal.fields-preserved
fields-preserved c =
    let p = λ (k : Custom). k.place == c.args.place in
    let g = custom_of c.args.has.now in
    let picked = λ (fs : List Field). filter p (map g (filter (is_kind CustomField) fs)) in
    let x = c.at.result.now in
    let old = c.args.customs.now.items in
    let before = picked (take c.fields.i c.args.fields.now) in
    c.in_ok-add_custom.ensures ∙ ap (λ (l : List Custom). l ++ picked (x ∷ [])) c.fields.invariant ∙ append_assoc old before (picked (x ∷ []))
    ∙ ap (λ (l : List Custom). old ++ l) (picked_then c.args.fields.now c.fields.i x c.at.ensures (is_kind CustomField) g p)
