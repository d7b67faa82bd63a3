use Rattle.std.proofs.Common.{◌≡◌, ℕ, true, sym, subst, ◌∙◌}
use Rattle.std.specs.Prelude.{slice_index}
use Rattle.ctw_text.specs.Toks.{is_digit}
use Rattle.ctw_pieces.proofs.AtomTexts.{some_digits, no_digits}
use Rattle.ctw_pieces.proofs.atoms.numeral.Goals as goal

pub returns-in-Some : goal.returns-in-Some
returns-in-Some c =
    let a : is_digit c.first_byte-first.result ≡ true = sym c.is_ascii_digit.ensures.value ∙ c.if-is_ascii_digit.true in
    let b : c.first_byte-first.result ≡ slice_index c.args.text.now 0 = cc in
    some_digits c.args.text.now _ (subst (λ (x : ℕ). is_digit x ≡ true) b a) (sym c.in-Some.is ∙ c.cut_number.ensures)

pub returns-in-None : goal.returns-in-None
returns-in-None c =
    let a : is_digit c.first_byte-first.result ≡ true = sym c.is_ascii_digit.ensures.value ∙ c.if-is_ascii_digit.true in
    let b : c.first_byte-first.result ≡ slice_index c.args.text.now 0 = cc in
    no_digits c.args.text.now (subst (λ (x : ℕ). is_digit x ≡ true) b a) (sym c.in-None.is ∙ c.cut_number.ensures)
