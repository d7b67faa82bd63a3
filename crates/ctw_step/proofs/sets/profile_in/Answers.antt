use Rattle.std.proofs.Common.{◌≡◌, List, get_or, sym, ap, ◌∙◌}
use Rattle.std.proofs.lemmas.Option.{get_or_from_slice_get}
use Rattle.ctw_link.specs.declared.set.Part.{Part}
use Rattle.ctw_step.proofs.Homes.{home, home_profile}
use Rattle.ctw_step.proofs.sets.profile_in.Goals as goal

pub returns : goal.returns
returns c = λ func index fn eo ef.
    let h = home c.args.set.now func c.args.part index fn eo ef in
    let x = get_or_from_slice_get c.args.set.now c.args.part h.p c.index-parts-part.result h.is in
    let same : get_or c.parts.result.now c.args.part c.index-parts-part.result ≡ h.p = ap (λ (l : List Part). get_or l c.args.part c.index-parts-part.result) c.parts.ensures.value ∙ x in
    home_profile c.args.set.now func c.args.part index fn h ∙ sym (c.profile.ensures ∙ ap (λ (p : Part). p.«module».profile) same)
