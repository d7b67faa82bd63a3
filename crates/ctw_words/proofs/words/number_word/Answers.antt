use Rattle.std.proofs.Common.{◌≡◌, ◌<◌, ◌&&◌, ℕ, Bool, true, false, List, length, Some, None, cond, nat_le, refl, sym, ap, ◌∙◌, arith, rules, lt_of_not-le}
use Rattle.std.specs.Str.{all_ascii_digits}
use Rattle.std.specs.Str.Parse.{digits_value}
use Rattle.std.proofs.lemmas.Bool.{leb-true}
use Rattle.std.proofs.lemmas.Str.Parse.{numerals_by_value, tells_all_ascii_digits, parse_gives}
use Rattle.ctw_words.specs.Words.{within, number_word}
use Rattle.ctw_words.proofs.words.number_word.Goals as goal

-- digits that write a larger number
module _ (least most : ℕ) (word : List ℕ) (large : most < digits_value 10 word) where
  outside : (a b : Bool) → (b ≡ true → ⊥) → None ≡ cond (a && b) (Some (digits_value 10 word)) None
  outside true true h = absurd (h refl)
  outside true false h = refl
  outside false b h = refl

  too_large : None ≡ number_word least most word
  too_large = at (nat_le 1 (length word) && all_ascii_digits word)
    where
      at : (b : Bool) → None ≡ cond b (within least most (digits_value 10 word)) None
      at true = outside (nat_le least (digits_value 10 word)) (nat_le (digits_value 10 word) most) (λ e. omega (arith, leb-true (digits_value 10 word) most e))
      at false = refl

pub returns-in_default : goal.returns-in_default
returns-in_default c =
    let word = c.args.word.now in
    let digits : all_ascii_digits word ≡ true = ap all_ascii_digits (sym c.as_bytes.ensures.value) ∙ sym c.if-not-are_digits.ensures in
    let some : 0 < length word = search rules in
    too_large c.args.least c.args.most word (lt_of_not-le (λ le. c.in_default.not-Ok (digits_value 10 word)
    (parse_gives (numerals_by_value (λ ds. all_ascii_digits ds ≡ true) tells_all_ascii_digits) 32 word c.parse.result c.parse.ensures.value.0 digits some (omega (arith, le, c.ranges.most.fits)))))
