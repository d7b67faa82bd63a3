use Rattle.std.proofs.Common.{List, ◌++◌, ap, sym, ◌∙◌}
use Rattle.std.proofs.lemmas.List.{append-nil}
use Rattle.ctw_text.specs.declared.fields.Item.{Item}
use Rattle.ctw_text.specs.declared.fields.Raw.{Raw}
use Rattle.ctw_names.specs.Pending.{pending}
use Rattle.ctw_names.proofs.Gathering.{pending_end}
use Rattle.ctw_names.proofs.order.run_order.Goals as goal

pub returns : goal.returns
returns c =
    let raws = c.items.raws.items in
    sym (append-nil raws) ∙ ap (λ (l : List Raw). raws ++ l) (sym (pending_end c.items.folds c.items.held))
    ∙ ap (λ (is : List Item). raws ++ pending c.items.folds c.items.held is) (sym c.in_default.ensures.0) ∙ c.items.invariant
