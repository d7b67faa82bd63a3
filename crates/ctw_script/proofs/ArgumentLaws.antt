-- The words of arguments, by the grammar and by a function.
use Rattle.std.proofs.Common.{◌≡◌, ℕ, ◌<◌, ◌≤◌, ◌^◌, ◌==◌, Bool, true, false, List, [], ◌∷◌, Option, Some, None, option_map, nat_lt, nat_le, refl, sym, ap, subst, ◌∙◌, arith, MatchOption}
use Rattle.std.proofs.lemmas.Bool.{eqb-true}
use Rattle.ctw_ops.specs.Segments.{and_then}
use Rattle.ctw_lex.specs.declared.numbers.Magnitude.TheVariants.{Small}
use Rattle.ctw_lex.specs.NumberForms.{IsSignedNumber}
use Rattle.ctw_lex.specs.NumberValues.{number_of_value, signed_number_value, signed_of_value}
use Rattle.ctw_lex.proofs.NumberLaws.{signed_told, signed_spelled}
use Rattle.ctw_lex.proofs.Facts.{some_same, none_some}
use Rattle.ctw_script.specs.declared.moves.Arg.{Arg}
use Rattle.ctw_script.specs.declared.moves.Arg.TheVariants.{Number, Vault}
use Rattle.ctw_script.specs.Grammar.{IsArgument, vault, positive, negative}
use Rattle.ctw_script.specs.MoveValues.{is_star, ranged, argument_value}
use Rattle.ctw_script.proofs.Facts.{lt_true, true_lt, le_true, true_le}

starless : (b : ℕ) (p : Bool × ℕ) (t : Bool) → (b == 42) ≡ t → signed_number_value (b ∷ []) ≡ Some p → (b == 42) ≡ false
starless b p false e h = e
starless b p true e h =
    let same : b ≡ 42 = eqb-true b 42 e in
    let f : signed_number_value (42 ∷ []) ≡ Some p = rw same at h in
    absurd (none_some f)

no_star : (word : List ℕ) (p : Bool × ℕ) → signed_number_value word ≡ Some p → is_star word ≡ false
no_star [] p h = refl
no_star (b ∷ []) p h = starless b p (b == 42) refl h
no_star (b ∷ c ∷ bs) p h = refl

small_value : (n : ℕ) → n < 2 ^ 64 → number_of_value n ≡ Small n
small_value n h = rw (lt_true n (2 ^ 64) h) refl

number_argument : (word : List ℕ) (a : Bool) (n : ℕ) → signed_number_value word ≡ Some (a, n) → argument_value word ≡ ranged a (number_of_value n)
number_argument word a n e = rw (no_star word (a, n) e, e) refl

wider : (n : ℕ) → n ≤ 2 ^ 63 → n < 2 ^ 64
wider n h = omega arith

pub argument_told : {word : List ℕ} {arg : Arg} → IsArgument word arg → argument_value word ≡ Some arg
argument_told vault = refl
argument_told (positive {word} {n} h small) =
    number_argument word false n (signed_told h) ∙ ap (ranged false) (small_value n small)
argument_told (negative {word} {n} h small) =
    let e : ranged true (Small n) ≡ Some (Number true n) = rw (le_true n (2 ^ 63) small) refl in
    number_argument word true n (signed_told h) ∙ ap (ranged true) (small_value n (wider n small)) ∙ e

ranged_negative : (word : List ℕ) (n : ℕ) (arg : Arg) → IsSignedNumber word true n → (u : Bool) → nat_le n (2 ^ 63) ≡ u →
    ranged true (Small n) ≡ Some arg → IsArgument word arg
ranged_negative word n arg h true e f =
    let g : Some (Number true n) ≡ Some arg = rw e at f in
    subst (IsArgument word) (some_same g) (negative h (true_le n (2 ^ 63) e))
ranged_negative word n arg h false e f = let g : None ≡ Some arg = rw e at f in absurd (none_some g)

ranged_spelled : (word : List ℕ) (a : Bool) (n : ℕ) (arg : Arg) → IsSignedNumber word a n → (t : Bool) → nat_lt n (2 ^ 64) ≡ t →
    ranged a (number_of_value n) ≡ Some arg → IsArgument word arg
ranged_spelled word false n arg h true e f =
    let g : Some (Number false n) ≡ Some arg = rw e at f in
    subst (IsArgument word) (some_same g) (positive h (true_lt n (2 ^ 64) e))
ranged_spelled word true n arg h true e f =
    let g : ranged true (Small n) ≡ Some arg = rw e at f in
    ranged_negative word n arg h (nat_le n (2 ^ 63)) refl g
ranged_spelled word false n arg h false e f = let g : None ≡ Some arg = rw e at f in absurd (none_some g)
ranged_spelled word true n arg h false e f = let g : None ≡ Some arg = rw e at f in absurd (none_some g)

signed_argument : (word : List ℕ) (arg : Arg) (o : Option (Bool × ℕ)) → signed_number_value word ≡ o →
    and_then (option_map signed_of_value o) (λ s. ranged s.negative s.size) ≡ Some arg → IsArgument word arg
signed_argument word arg None e h = absurd (none_some h)
signed_argument word arg (Some (a, n)) e h = ranged_spelled word a n arg (signed_spelled word a n e) (nat_lt n (2 ^ 64)) refl h

star_word : (word : List ℕ) → is_star word ≡ true → word ≡ 42 ∷ []
star_word [] e = cc
star_word (b ∷ []) e = ap (λ k. k ∷ []) (eqb-true b 42 e)
star_word (b ∷ c ∷ bs) e = cc

word_spelled : (word : List ℕ) (arg : Arg) (t : Bool) → is_star word ≡ t → argument_value word ≡ Some arg → IsArgument word arg
word_spelled word arg true e h =
    let g : Some Vault ≡ Some arg = rw e at h in
    rw (star_word word e) (subst (IsArgument (42 ∷ [])) (some_same g) vault)
word_spelled word arg false e h =
    let g : and_then (option_map signed_of_value (signed_number_value word)) (λ s. ranged s.negative s.size) ≡ Some arg = rw e at h in
    signed_argument word arg (signed_number_value word) refl g

pub argument_spelled : (word : List ℕ) (arg : Arg) → argument_value word ≡ Some arg → IsArgument word arg
argument_spelled word arg h = word_spelled word arg (is_star word) refl h

pub argument_only : {word : List ℕ} (a b : Arg) → IsArgument word a → IsArgument word b → a ≡ b
argument_only a b h k = some_same (sym (argument_told h) ∙ argument_told k)

told_or_not : (word : List ℕ) (o : Option Arg) → argument_value word ≡ o → MatchOption o ((arg : Arg) → ¬ (IsArgument word arg)) (λ arg. IsArgument word arg)
told_or_not word None e = λ arg h. none_some (sym e ∙ argument_told h)
told_or_not word (Some arg) e = argument_spelled word arg e

pub argument_tells : (word : List ℕ) → MatchOption (argument_value word) ((arg : Arg) → ¬ (IsArgument word arg)) (λ arg. IsArgument word arg)
argument_tells word = told_or_not word (argument_value word) refl
