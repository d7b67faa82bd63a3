use Rattle.std.proofs.Common.{◌++◌, ◌∷◌, [], ap, ◌∙◌, sym, refl, append_assoc}
use Rattle.ctw_step.specs.Shown.{Shown, shown}
use Rattle.ctw_step.specs.Told.{with_operands}
use Rattle.ctw_step.proofs.words.pick.Goals as goal

pub returns-clause-picked : goal.returns-clause-picked
returns-clause-picked c = λ front a b n e.
    let s = c.shrink.ensures.cut (front ++ a ∷ []) (b ∷ n ∷ []) (e ∙ sym (append_assoc front (a ∷ []) (b ∷ n ∷ []))) refl in
    c.set_top.ensures.set front a (ap (λ (c : Shown). c.operands) s)
    ∙ ap (λ (d : Shown). with_operands d (front ++ c.chosen-number.result ∷ []) c.args.next) s
    ∙ ap (λ x. with_operands (shown c.args.act.now) (front ++ x ∷ []) c.args.next) (c.chosen-number.ensures front a b n e)
