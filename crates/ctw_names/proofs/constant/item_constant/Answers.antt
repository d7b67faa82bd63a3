use Rattle.std.proofs.Common.{[], ◌∷◌, ap, sym, ◌∙◌}
use Rattle.ctw_text.specs.declared.fields.Item.{Item}
use Rattle.ctw_text.specs.declared.fields.Item.TheVariants.{Op}
use Rattle.ctw_text.specs.declared.fields.Raw.{Raw}
use Rattle.ctw_text.specs.Names.{constant_in}
use Rattle.ctw_names.specs.Spaces.{space_in}
use Rattle.ctw_names.proofs.constant.item_constant.Goals as goal

pub returns-in-Single : goal.returns-in-Single
returns-in-Single c =
    let S = space_in c.args.space.now in
    c.leaf_constant.ensures S ∙ ap (λ (r : Raw). constant_in S (Op r ∷ [])) (sym c.in-Single.is) ∙ ap (λ (i : Item). constant_in S (i ∷ [])) (sym c.in-Op.is)
