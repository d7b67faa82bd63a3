use Rattle.std.proofs.Common.{◌++◌, List, ℕ, refl, sym, ap, ◌∙◌}
use Rattle.ctw_place.proofs.VariantTexts.{number_of, old_held, old_number, new_held, new_number}
use Rattle.ctw_place.proofs.variants.Variants.number.Goals as goal

pub returns-in-Some-clause-held : goal.returns-in-Some-clause-held
returns-in-Some-clause-held c = λ vs u h is small secret.
    let some = sym (c.in-Some.ensures ∙ c.get.ensures.value ∙ ap (λ k. number_of k c.args.self.now.numbers) c.as_slice.ensures.value) in
    old_held c.args.self.now vs u c.args.text.items h is small secret c.in-Some.number some

pub returns-in-Some-clause-number : goal.returns-in-Some-clause-number
returns-in-Some-clause-number c = λ vs u h is small secret.
    let some = sym (c.in-Some.ensures ∙ c.get.ensures.value ∙ ap (λ k. number_of k c.args.self.now.numbers) c.as_slice.ensures.value) in
    old_number c.args.self.now vs u c.args.text.items h is small secret c.in-Some.number some

pub returns-in_ok-insert-in-None-clause-held : goal.returns-in_ok-insert-in-None-clause-held
returns-in_ok-insert-in-None-clause-held c = λ vs u h is small secret.
    let none = sym (c.in-None.ensures ∙ c.get.ensures.value ∙ ap (λ k. number_of k c.args.self.now.numbers) c.as_slice.ensures.value) in
    new_held c.args.self.now vs u c.args.text.items h is small secret _ none
    (c.in_ok-extend_from_slice-in-None.ensures.items ∙ ap (λ (l : List ℕ). c.args.self.now.texts.items ++ l) c.deref.ensures.value) refl c.in_ok-insert-in-None.ensures.updates

pub returns-in_ok-insert-in-None-clause-number : goal.returns-in_ok-insert-in-None-clause-number
returns-in_ok-insert-in-None-clause-number c = λ vs u h is small secret.
    let none = sym (c.in-None.ensures ∙ c.get.ensures.value ∙ ap (λ k. number_of k c.args.self.now.numbers) c.as_slice.ensures.value) in
    new_number c.args.self.now vs u c.args.text.items h is small secret none
