use Rattle.std.proofs.Common.{Some, ◌∙◌, reverse, [], ◌∷◌, sym, ap}
use Rattle.std.proofs.lemmas.List.{reverse-append}
use Rattle.ctw_ops.specs.Types.{value_type}
use Rattle.ctw_labels.specs.Numbering.{block_lift}
use Rattle.ctw_place.proofs.pass.open.Goals as goal

pub returns-in_ok-enter-in-Some-clause-ends : goal.returns-in_ok-enter-in-Some-clause-ends
returns-in_ok-enter-in-Some-clause-ends c =
    ap reverse c.in_ok-push-in-Some.ensures.items ∙ reverse-append c.args.ends.now.items (_ ∷ [])
    ∙ ap (λ w. block_lift c.args.free c.args.n (Some (value_type w c.in-Some.t.tag)) ∷ reverse c.args.ends.now.items) (ap (λ z. z.width) c.t.view_is)
    ∙ ap (λ z. block_lift c.args.free c.args.n z ∷ reverse c.args.ends.now.items) (sym c.in-Some.is)

pub returns-in_ok-enter-in-None-clause-ends : goal.returns-in_ok-enter-in-None-clause-ends
returns-in_ok-enter-in-None-clause-ends c = ap reverse c.in_ok-push-in-None.ensures.items ∙ reverse-append c.args.ends.now.items (_ ∷ []) ∙ ap (λ z. block_lift c.args.free c.args.n z ∷ reverse c.args.ends.now.items) (sym c.in-None.is)
