use Rattle.std.proofs.Common.{List, [], ◌∷◌, ap, ◌∙◌}
use Rattle.std.specs.Prelude.{fold}
use Rattle.std.specs.List.{filter_map}
use Rattle.ctw_text.specs.Names.{Spelled, added, use_in}
use Rattle.ctw_names.proofs.Walks.{chosen_then}
use Rattle.ctw_names.proofs.space.add_uses.Goals as goal

pub items-preserved : goal.items-preserved
items-preserved c =
    let x = c.at.result.now in
    c.in_ok-add_item.ensures ∙ ap (λ (es : List Spelled). fold added es (filter_map use_in (x ∷ []))) c.items.invariant
    ∙ chosen_then c.args.field.now.draft.code c.items.i x c.at.ensures added _ use_in
