-- First positions in lists that grow, and maps that hold them.
use Rattle.std.proofs.Common.{◌≡◌, ℕ, ◌+◌, ◌||◌, Bool, true, false, cond, List, [], ◌∷◌, ◌++◌, length, refl, ap, sym, ◌∙◌, arith}
use Rattle.std.specs.Prelude.{Option, Some, None, is_some, position}
use Rattle.std.specs.List.{list_any, position_from}
use Rattle.std.specs.Option.{option_or}
use Rattle.std.specs.Str.{bytes_eq}
use Rattle.std.specs.Cmp.Lexicographic.{nat_list_eq_equiv}
use Rattle.std.proofs.lemmas.Bool.{false≢true}
use Rattle.std.proofs.lemmas.Slice.Eq.{bytes_eq-Decides}
use Rattle.std.proofs.lemmas.Iterator.Adapters.{position_from-zero}
use Rattle.ctw_text.specs.Written.{Name}
use Rattle.ctw_text.specs.Names.{is_named}

module _ {X : Type 0} (p : X → Bool) where
  push_from : (xs : List X) (y : X) (i : ℕ) → position_from p i (xs ++ y ∷ []) ≡ option_or (position_from p i xs) (cond (p y) (Some (i + length xs)) None)
  push_from [] y i = let e : i ≡ i + 0 = omega arith in ap (λ (n : ℕ). cond {A = Option ℕ} (p y) (Some n) None) e
  push_from (x ∷ xs) y i = go (p x) (push_from xs y (i + 1))
    where
      go : (b : Bool) → position_from p (i + 1) (xs ++ y ∷ []) ≡ option_or (position_from p (i + 1) xs) (cond (p y) (Some (i + 1 + length xs)) None)
          → cond b (Some i) (position_from p (i + 1) (xs ++ y ∷ [])) ≡ option_or (cond b (Some i) (position_from p (i + 1) xs)) (cond (p y) (Some (i + length (x ∷ xs))) None)
      go true h = refl
      go false h =
          let e : i + 1 + length xs ≡ i + length (x ∷ xs) = omega arith in
          h ∙ ap (λ (n : ℕ). option_or (position_from p (i + 1) xs) (cond {A = Option ℕ} (p y) (Some n) None)) e

  -- the first position, with one more item behind
  pub position_push : (xs : List X) (y : X) → position p (xs ++ y ∷ []) ≡ option_or (position p xs) (cond (p y) (Some (length xs)) None)
  position_push xs y =
      let e : 0 + length xs ≡ length xs = omega arith in
      position_from-zero p (xs ++ y ∷ []) ∙ push_from xs y 0
      ∙ ap (λ (n : ℕ). option_or (position_from p 0 xs) (cond {A = Option ℕ} (p y) (Some n) None)) e
      ∙ ap (λ (o : Option ℕ). option_or o (cond (p y) (Some (length xs)) None)) (sym (position_from-zero p xs))

  any_from : (xs : List X) (i : ℕ) → list_any p xs ≡ is_some (position_from p i xs)
  any_from [] i = refl
  any_from (x ∷ xs) i = go (p x) (any_from xs (i + 1))
    where
      go : (b : Bool) → list_any p xs ≡ is_some (position_from p (i + 1) xs) → (b || list_any p xs) ≡ is_some (cond b (Some i) (position_from p (i + 1) xs))
      go true h = refl
      go false h = h

  -- an item passes where there is a first that does
  pub any_position : (xs : List X) → list_any p xs ≡ is_some (position p xs)
  any_position xs = any_from xs 0 ∙ ap (λ (o : Option ℕ). is_some o) (sym (position_from-zero p xs))

-- Maps from words to numbers

no_other : {X : Type 0} (o : Option X) → o ≡ option_or o None
no_other (Some x) = refl
no_other None = refl

pub kept : {X : Type 0} (o other : Option X) → is_some o ≡ true → o ≡ option_or o other
kept (Some x) other h = refl
kept None other h = absurd (false≢true h)

pub none_from : {X : Type 0} (o : Option X) → is_some o ≡ false → o ≡ None
none_from None h = refl
none_from (Some x) h = absurd (false≢true (sym h))

-- a new word is put beside the others
pub first_put : (g h : List ℕ → Option ℕ) (word : List ℕ) (o : Option ℕ) → is_some (g word) ≡ false → ((w : List ℕ) → h w ≡ cond (bytes_eq word w) o (g w))
    → (w : List ℕ) → h w ≡ option_or (g w) (cond (bytes_eq w word) o None)
first_put g h word o none after w = go (bytes_eq word w) refl
  where
    go : (b : Bool) → bytes_eq word w ≡ b → h w ≡ option_or (g w) (cond (bytes_eq w word) o None)
    go true t =
        let same : word ≡ w = (bytes_eq-Decides word w).0 t in
        let new : h w ≡ o = after w ∙ ap (λ (b : Bool). cond b o (g w)) t in
        let empty : g w ≡ None = none_from (g w) (ap (λ (v : List ℕ). is_some (g v)) (sym same) ∙ none) in
        let turned : bytes_eq w word ≡ true = nat_list_eq_equiv.symm w word ∙ t in
        new ∙ sym (ap (λ (u : Option ℕ). option_or u (cond (bytes_eq w word) o None)) empty ∙ ap (λ (b : Bool). cond b o None) turned)
    go false f =
        let turned : bytes_eq w word ≡ false = nat_list_eq_equiv.symm w word ∙ f in
        after w ∙ ap (λ (b : Bool). cond b o (g w)) f ∙ no_other (g w) ∙ ap (λ (b : Bool). option_or (g w) (cond b o None)) (sym turned)

-- a map that holds the first position of each word does so with one more name
pub table_more : (g h : List ℕ → Option ℕ) (names : List (Option Name)) (n : Name) (word : List ℕ) (at : ℕ) → ((w : Name) → g w.word ≡ position (is_named w) names)
    → ((w : List ℕ) → h w ≡ option_or (g w) (cond (bytes_eq w word) (Some at) None)) → word ≡ n.word → at ≡ length names → (w : Name) → h w.word ≡ position (is_named w) (names ++ Some n ∷ [])
table_more g h names n word at are after same size w =
    let found : Option ℕ = position (is_named w) names in
    after w.word ∙ ap (λ (o : Option ℕ). option_or o (cond (bytes_eq w.word word) (Some at) None)) (are w)
    ∙ ap (λ (v : List ℕ). option_or found (cond (bytes_eq w.word v) (Some at) None)) same
    ∙ ap (λ (k : ℕ). option_or found (cond {A = Option ℕ} (bytes_eq w.word n.word) (Some k) None)) size
    ∙ sym (position_push (is_named w) names (Some n))
