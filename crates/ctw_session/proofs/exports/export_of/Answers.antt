use Rattle.std.proofs.Common.{◌≡◌, ℕ, List, ap, sym, subst, ◌∙◌, get_or, slice_get, Option, Some, None, MatchOption}
use Rattle.std.specs.List.{position_from}
use Rattle.std.proofs.lemmas.Option.{slice_get-get_or}
use Rattle.ctw_ops.specs.declared.types.ExternTag.{ExternTag}
use Rattle.ctw_link.specs.declared.set.Part.{Part}
use Rattle.ctw_link.specs.Externals.{has_name}
use Rattle.ctw_link.specs.Sets.{set_of}
use Rattle.ctw_link.specs.Exports.{exported}
use Rattle.ctw_session.specs.Exporting.{IsExport}
use Rattle.ctw_session.specs.declared.exports.Export.{Export}
use Rattle.ctw_session.proofs.Exporting.{no_part, part_there, numbers, is_export}
use Rattle.ctw_session.proofs.exports.export_of.Goals as goal

abbrev Tells : List Part → List ℕ → List ℕ → Option Export → Type 0
Tells parts part name o = MatchOption o ((tag : ExternTag) → exported tag (set_of parts) part name ≡ None) (IsExport parts part name)

first_in : (seen parts : List Part) (name : List ℕ) (o : Option ℕ) → seen ≡ parts → o ≡ position_from (has_name name) 0 (set_of seen) → o ≡ position_from (has_name name) 0 (set_of parts)
first_in seen parts name o e h = h ∙ ap (λ (l : List Part). position_from (has_name name) 0 (set_of l)) e

pub returns-in_err-part : goal.returns-in_err-part
returns-in_err-part c =
    subst (Tells c.args.set.now c.args.part.now c.args.name.now) (sym c.from_residual.ensures)
    (no_part c.args.set.now c.args.part.now c.args.name.now (first_in _ _ _ _ c.parts.ensures.value c.in_err-part.ensures))

pub bounds-parts-part : goal.bounds-parts-part
bounds-parts-part c = part_there c.parts-2.result.now c.args.part.now c.args.name.now c.in_ok-part.part (first_in _ _ _ _ (c.parts.ensures.value ∙ sym c.parts-2.ensures.value) c.in_ok-part.ensures)

pub returns-in_err-tag : goal.returns-in_err-tag
returns-in_err-tag c =
    let set = c.args.set.now in
    let k = c.in_ok-part.part in
    let d = c.index-parts-part.result in
    let first = first_in _ set _ _ c.parts.ensures.value c.in_ok-part.ensures in
    let p = get_or c.parts-2.result.now k d in
    let lt = part_there set c.args.part.now c.args.name.now k first in
    let at : slice_get set k ≡ Some p = ap (λ (l : List Part). slice_get l k) (sym c.parts-2.ensures.value) ∙ slice_get-get_or c.parts-2.result.now k d (part_there c.parts-2.result.now c.args.part.now c.args.name.now k (first_in _ _ _ _ (c.parts.ensures.value ∙ sym c.parts-2.ensures.value) c.in_ok-part.ensures)) in
    subst (Tells set c.args.part.now c.args.name.now) (sym c.from_residual-in_err-tag.ensures)
    (numbers set c.args.part.now c.args.name.now k p first at None c.in_err-tag.ensures)

pub returns : goal.returns
returns c =
    let set = c.args.set.now in
    let k = c.in_ok-part.part in
    let d = c.index-parts-part.result in
    let first = first_in _ set _ _ c.parts.ensures.value c.in_ok-part.ensures in
    let p = get_or c.parts-2.result.now k d in
    let at : slice_get set k ≡ Some p = ap (λ (l : List Part). slice_get l k) (sym c.parts-2.ensures.value) ∙ slice_get-get_or c.parts-2.result.now k d (part_there c.parts-2.result.now c.args.part.now c.args.name.now k (first_in _ _ _ _ (c.parts.ensures.value ∙ sym c.parts-2.ensures.value) c.in_ok-part.ensures)) in
    is_export set c.args.part.now c.args.name.now k p first at c.parts.ensures.linked c.in_ok-tag.tag c.in_ok-tag.index c.in_ok-tag.ensures
