-- Numbers that tokens spell, as they are read.
use Rattle.std.proofs.Common.{◌≡◌, ℕ, ◌+◌, ◌*◌, ◌^◌, ◌≤◌, Bool, true, false, List, [], ◌∷◌, Option, Some, None, nat_lt, refl, ap, sym, ◌∙◌, arith}
use Rattle.std.specs.Prelude.{option_map, fold, drop, ◌==◌, ◌&&◌}
use Rattle.std.proofs.lemmas.Bool.{ltb-true, eqb-true, and_parts}
use Rattle.std.proofs.lemmas.Bool.Decides.{nat_tests}
use Rattle.std.specs.Option.{option_or}
use Rattle.std.proofs.Math.Nat.{min-eq_left, min-eq_right}
use Rattle.ctw_lex.specs.declared.numbers.Magnitude.{Magnitude}
use Rattle.ctw_lex.specs.declared.numbers.Magnitude.TheVariants.{Small, Large}
use Rattle.ctw_lex.specs.Chars.{is_hex, hex_value}
use Rattle.ctw_lex.specs.NumberValues.{digits_value, decimal_value, number_value, number_of_value}
use Rattle.ctw_text.specs.Toks.{is_digit, plain_digits, begins_hex, number}
use Rattle.ctw_pieces.specs.Numbers.{cut}

map_map : {A B C : Type 0} (f : A → B) (g : B → C) (o : Option A) → option_map g (option_map f o) ≡ option_map (λ x. g (f x)) o
map_map f g None = refl
map_map f g (Some x) = refl

-- digits are read from the front on
abbrev Read : (base : ℕ) → (ℕ → Bool) → (before : Bool) → (n : ℕ) → List ℕ → Type 0
Read base p before n bs =
    digits_value base p before n bs ≡ option_map (λ ds. fold (λ n b. base * n + hex_value b) n ds) (plain_digits p before bs)

by_byte : (base : ℕ) (p : ℕ → Bool) (before : Bool) (n b : ℕ) (bs : List ℕ) → ((before : Bool) (n : ℕ) → Read base p before n bs)
    → (t u : Bool) → p b ≡ t → (before && b == 95) ≡ u → Read base p before n (b ∷ bs)
by_byte base p before n b bs rest true u q r =
    rw q
    (rest true (base * n + hex_value b)
    ∙ sym (map_map (λ ds. b ∷ ds) (λ ds. fold (λ n b. base * n + hex_value b) n ds) (plain_digits p true bs)))
by_byte base p before n b bs rest false true q r = rw (q, r) (rest false n)
by_byte base p before n b bs rest false false q r = rw (q, r) refl

read : (base : ℕ) (p : ℕ → Bool) (bs : List ℕ) (before : Bool) (n : ℕ) → Read base p before n bs
read base p [] true n = refl
read base p [] false n = refl
read base p (b ∷ bs) before n =
    by_byte base p before n b bs (λ before n. read base p bs before n) (p b) (before && b == 95) refl refl

-- no decimal number begins with `0x`
no_decimal : (bs : List ℕ) → begins_hex bs ≡ true → decimal_value bs ≡ None
no_decimal [] e = absurd cc
no_decimal (b ∷ []) e = let f : false ≡ true = (and_parts (b == 48) false e).1 in absurd cc
no_decimal (b ∷ c ∷ bs) e = two b c bs (eqb-true b 48 (and_parts _ _ e).0) (eqb-true c 120 (and_parts _ _ e).1)
  where
    two : (b c : ℕ) (bs : List ℕ) → b ≡ 48 → c ≡ 120 → decimal_value (b ∷ c ∷ bs) ≡ None
    two b c bs f g = rw (f, g) refl

or_none : (o : Option ℕ) → option_or o None ≡ o
or_none None = refl
or_none (Some n) = refl

by_prefix : (w : List ℕ) (t : Bool) → begins_hex w ≡ t → number w ≡ number_value w
by_prefix w true q = rw (no_decimal w q, q) (sym (read 16 is_hex (drop 2 w) false 0))
by_prefix w false q = rw q (sym (read 10 is_digit w false 0) ∙ sym (or_none (digits_value 10 is_digit false 0 w)))

same_number : (w : List ℕ) → number w ≡ number_value w
same_number w = by_prefix w (begins_hex w) refl

abbrev told : Option Magnitude → Option ℕ
told None = None
told (Some (Small n)) = Some n
told (Some Large) = Some (2 ^ 64)

by_size : (n : ℕ) (t : Bool) → nat_lt n (2 ^ 64) ≡ t → told (Some (number_of_value n)) ≡ Some (cut n)
by_size n true q = rw q (ap (λ k. Some k) (sym (min-eq_left (omega (arith, ltb-true n (2 ^ 64) q)))))
by_size n false q =
    let ge : 2 ^ 64 ≤ n = grind (arith, nat_tests) in
    rw q (ap (λ k. Some k) (sym (min-eq_right ge)))

told_cut : (o : Option ℕ) → told (option_map number_of_value o) ≡ option_map cut o
told_cut None = refl
told_cut (Some n) = by_size n (nat_lt n (2 ^ 64)) refl

told_number : (w : List ℕ) (m : Option Magnitude) → m ≡ option_map number_of_value (number_value w)
    → told m ≡ option_map cut (number w)
told_number w m e = ap (λ m. told m) e ∙ (told_cut (number_value w) ∙ ap (λ o. option_map cut o) (sym (same_number w)))

-- the three answers of the reader
pub small_number : (w : List ℕ) (n : ℕ) → Some (Small n) ≡ option_map number_of_value (number_value w)
    → Some n ≡ option_map cut (number w)
small_number w n e = told_number w (Some (Small n)) e

pub large_number : (w : List ℕ) → Some Large ≡ option_map number_of_value (number_value w)
    → Some (2 ^ 64) ≡ option_map cut (number w)
large_number w e = told_number w (Some Large) e

pub no_number : (w : List ℕ) → None ≡ option_map number_of_value (number_value w) → None ≡ option_map cut (number w)
no_number w e = told_number w None e
