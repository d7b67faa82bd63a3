use Rattle.std.proofs.Common.{ap, sym, ◌∙◌, get_or, Some, None, take, option_map}
use Rattle.ctw_module.specs.Given.{import_given}
use Rattle.ctw_link.specs.Sets.{set_of, part_in}
use Rattle.ctw_link.proofs.Offering.{known_names, none_offered, within_parts, at_part, thing_offered, offer}
use Rattle.ctw_link.proofs.offers.offered.Goals as goal

pub returns-in_err-part-clause-ty : goal.returns-in_err-part-clause-ty
returns-in_err-part-clause-ty c =
    ap (option_map _) c.from_residual.ensures
    ∙ sym (none_offered (set_of c.args.parts.now) (known_names c.args.names.now) c.args.before (import_given c.args.import.now) c.requires.names c.in_err-part.ensures)

pub bounds-parts-part : goal.bounds-parts-part
bounds-parts-part c = within_parts c.args.parts.now c.args.names.now c.args.before (import_given c.args.import.now).module_name c.in_ok-part.part c.requires.names c.in_ok-part.ensures

pub returns-in_err-tag-clause-ty : goal.returns-in_err-tag-clause-ty
returns-in_err-tag-clause-ty c =
    let i = import_given c.args.import.now in
    let d = c.index-parts-part.result in
    let at = at_part c.args.parts.now c.args.names.now c.args.before i c.in_ok-part.part d c.requires.parts c.requires.names c.in_ok-part.ensures in
    ap (option_map _) c.from_residual-in_err-tag.ensures
    ∙ sym (thing_offered (take c.args.before (set_of c.args.parts.now)) i c.in_ok-part.part (part_in (get_or c.args.parts.now c.in_ok-part.part d)) None at.found c.in_err-tag.ensures)

pub declared-requires : goal.declared-requires
declared-requires c = (at_part c.args.parts.now c.args.names.now c.args.before (import_given c.args.import.now) c.in_ok-part.part c.index-parts-part.result c.requires.parts c.requires.names c.in_ok-part.ensures).valid

pub returns-in_err-ty-clause-ty : goal.returns-in_err-ty-clause-ty
returns-in_err-ty-clause-ty c =
    let i = import_given c.args.import.now in
    let d = c.index-parts-part.result in
    let at = at_part c.args.parts.now c.args.names.now c.args.before i c.in_ok-part.part d c.requires.parts c.requires.names c.in_ok-part.ensures in
    ap (option_map _) c.from_residual-in_err-ty.ensures ∙ c.in_err-ty.ensures
    ∙ sym (thing_offered (take c.args.before (set_of c.args.parts.now)) i c.in_ok-part.part (part_in (get_or c.args.parts.now c.in_ok-part.part d)) (Some (c.in_ok-tag.tag, c.in_ok-tag.index)) at.found c.in_ok-tag.ensures)

pub returns-clause-ty : goal.returns-clause-ty
returns-clause-ty c =
    let i = import_given c.args.import.now in
    let d = c.index-parts-part.result in
    let at = at_part c.args.parts.now c.args.names.now c.args.before i c.in_ok-part.part d c.requires.parts c.requires.names c.in_ok-part.ensures in
    c.in_ok-ty.ensures
    ∙ sym (thing_offered (take c.args.before (set_of c.args.parts.now)) i c.in_ok-part.part (part_in (get_or c.args.parts.now c.in_ok-part.part d)) (Some (c.in_ok-tag.tag, c.in_ok-tag.index)) at.found c.in_ok-tag.ensures)

pub returns-clause-offer : goal.returns-clause-offer
returns-clause-offer c =
    let i = import_given c.args.import.now in
    let d = c.index-parts-part.result in
    let at = at_part c.args.parts.now c.args.names.now c.args.before i c.in_ok-part.part d c.requires.parts c.requires.names c.in_ok-part.ensures in
    offer (take c.args.before (set_of c.args.parts.now)) i c.in_ok-part.part (part_in (get_or c.args.parts.now c.in_ok-part.part d)) c.in_ok-tag.tag c.in_ok-tag.index c.in_ok-ty.ty at.valid at.found c.in_ok-tag.ensures c.in_ok-ty.ensures
