-- Atoms, and what they begin with.
use Rattle.std.proofs.Common.{◌≡◌, ℕ, ◌+◌, ◌-◌, ◌<◌, ◌≤◌, true, false, List, [], ◌∷◌, length, take, drop, get_or, length-drop, refl, ap, sym, subst, ◌∙◌, arith, add-one}
use Rattle.std.specs.Prelude.{◌==◌, Option, Some, None, option_map, slice_index}
use Rattle.std.proofs.Math.Seq.{drop-cons, take-length}
use Rattle.std.proofs.Math.Nat.{min-le_right}
use Rattle.std.proofs.lemmas.Bool.{false_from_ne_true, eqb-true}
use Rattle.std.proofs.lemmas.List.{length-take, get_or-take}
use Rattle.std.proofs.lemmas.Str.{IsCharBoundary-after_ascii}
use Rattle.std.specs.Str.{IsUtf8, IsCharBoundary}
use Rattle.std.proofs.lemmas.Slice.Eq.{bytes_eq-Decides}
use Rattle.ctw_text.specs.declared.toks.Tok.{Tok}
use Rattle.ctw_text.specs.declared.toks.Tok.TheVariants.{Num, Other}
use Rattle.ctw_text.specs.Words.{key_of}
use Rattle.ctw_text.specs.Toks.{is_digit, number, begins_with, holds_word, numeral, or_else, atom}
use Rattle.ctw_pieces.specs.Numbers.{cut, cut_tok}

pub too_short : (word front : List ℕ) → length word < length front → false ≡ begins_with front word
too_short word front h =
    sym
    (false_from_ne_true (begins_with front word)
    (λ q.
    let same : take (length front) word ≡ front = (bytes_eq-Decides (take (length front) word) front).0 q in
    let a = length-take (length front) word in
    let b = ap length same in
    let d = min-le_right (length front) (length word) in
    absurd (omega arith)))

module _ (inner word : List ℕ) (i : ℕ) (inside : i < length word) where
  first : drop i word ≡ get_or word i 0 ∷ drop (i + 1) word
  first = drop-cons word i 0 inside ∙ ap (λ n. get_or word i 0 ∷ drop n word) (sym (add-one i))

  rest : take (length word - i) (drop i word) ≡ drop i word
  rest = ap (λ n. take n (drop i word)) (sym (length-drop i word)) ∙ take-length (drop i word)

  pub holds_later : begins_with inner (take (length word - i) (drop i word)) ≡ false
      → holds_word inner (drop (i + 1) word) ≡ holds_word inner (drop i word)
  holds_later e = by first (drop i word) refl (subst (λ (xs : List ℕ). begins_with inner xs ≡ false) rest e)
    where
      by : drop i word ≡ get_or word i 0 ∷ drop (i + 1) word → (rest : List ℕ) → drop i word ≡ rest → begins_with inner rest ≡ false
          → holds_word inner (drop (i + 1) word) ≡ holds_word inner rest
      by f [] q e = let g = sym q ∙ f in absurd cc
      by f (b ∷ bs) q e =
          let g : b ∷ bs ≡ get_or word i 0 ∷ drop (i + 1) word = sym q ∙ f in
          let t : bs ≡ drop (i + 1) word = cc in
          rw e (ap (λ xs. holds_word inner xs) (sym t))

  pub holds_here : begins_with inner (drop i word) ≡ true → true ≡ holds_word inner (drop i word)
  holds_here e = by first (drop i word) refl e
    where
      by : drop i word ≡ get_or word i 0 ∷ drop (i + 1) word → (rest : List ℕ) → drop i word ≡ rest → begins_with inner rest ≡ true
          → true ≡ holds_word inner rest
      by f [] q e = let g = sym q ∙ f in absurd cc
      by f (b ∷ bs) q e = rw e refl

same_front : (front w : List ℕ) → begins_with front w ≡ true → take (length front) w ≡ front
same_front front w e = (bytes_eq-Decides (take (length front) w) front).0 e

pub front_within : (front w : List ℕ) → begins_with front w ≡ true → length front ≤ length w
front_within front w e =
    let a = length-take (length front) w in
    let b = ap length (same_front front w e) in
    let d = min-le_right (length front) (length w) in
    omega arith

pub front_byte : (front w : List ℕ) (i : ℕ) → begins_with front w ≡ true → i < length front → get_or w i 0 ≡ get_or front i 0
front_byte front w i e h =
    sym (get_or-take (length front) w i 0 h) ∙ ap (λ xs. get_or xs i 0) (same_front front w e)

pub nonempty : (w : List ℕ) → 0 < get_or w 0 0 → 1 ≤ length w
nonempty [] h = absurd (omega arith)
nonempty (b ∷ w) h = omega arith

-- behind an ASCII byte there is a character's boundary
pub boundary : (w : List ℕ) (n : ℕ) → IsUtf8 w → (0 < n) × (n ≤ length w) → get_or w (n - 1) 0 < 128 → IsCharBoundary w n
boundary w n u (h, l) a =
    let e : n - 1 + 1 ≡ n = omega arith in
    subst (λ (k : ℕ). IsCharBoundary w k) e (IsCharBoundary-after_ascii w (n - 1) u (omega arith) a)

-- an atom that begins with a digit
cut_num : (o : Option ℕ) → option_map cut_tok (option_map (λ n. Num n) o) ≡ option_map (λ n. Num n) (option_map cut o)
cut_num None = refl
cut_num (Some n) = refl

by_digits : (w : List ℕ) → is_digit (slice_index w 0) ≡ true
    → option_map cut_tok (numeral w) ≡ option_map (λ n. Num n) (option_map cut (number w))
by_digits w e = rw e (cut_num (number w))

pub some_digits : (w : List ℕ) (n : ℕ) → is_digit (slice_index w 0) ≡ true → Some n ≡ option_map cut (number w)
    → Some (Num n) ≡ option_map cut_tok (numeral w)
some_digits w n e f = ap (λ o. option_map (λ n. Num n) o) f ∙ sym (by_digits w e)

pub no_digits : (w : List ℕ) → is_digit (slice_index w 0) ≡ true → None ≡ option_map cut (number w)
    → None ≡ option_map cut_tok (numeral w)
no_digits w e f = ap (λ o. option_map (λ n. Num n) o) f ∙ sym (by_digits w e)

-- an atom that is no word
not_dollar : (b : ℕ) → (b ≡ 36 → ⊥) → (b == 36) ≡ false
not_dollar b h = false_from_ne_true (b == 36) (λ q. h (eqb-true b 36 q))

told_numeral : (o : Option Tok) (t : Tok) → Some t ≡ option_map cut_tok o → t ≡ cut_tok (or_else o Other)
told_numeral None t e = absurd cc
told_numeral (Some u) t e = cc

told_none : (o : Option Tok) → None ≡ option_map cut_tok o → Other ≡ cut_tok (or_else o Other)
told_none None e = refl
told_none (Some u) e = absurd cc

pub by_numeral : (place : ℕ) (w : List ℕ) (t : Tok) → (slice_index w 0 ≡ 36 → ⊥) → None ≡ key_of w
    → Some t ≡ option_map cut_tok (numeral w) → t ≡ cut_tok (atom place w)
by_numeral place w t h e f = rw (not_dollar (slice_index w 0) h, sym e) (told_numeral (numeral w) t f)

pub by_none : (place : ℕ) (w : List ℕ) → (slice_index w 0 ≡ 36 → ⊥) → None ≡ key_of w
    → None ≡ option_map cut_tok (numeral w) → Other ≡ cut_tok (atom place w)
by_none place w h e f = rw (not_dollar (slice_index w 0) h, sym e) (told_none (numeral w) f)
