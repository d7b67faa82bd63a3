-- Items of a list from a place on.
use Rattle.std.proofs.Common.{◌≡◌, ◌≤◌, ℕ, zero, suc, ◌+◌, List, [], ◌∷◌, ◌++◌, length, drop, take, Some, ap, sym, ◌∙◌, arith, append_assoc}
use Rattle.std.specs.Prelude.{slice_get}
use Rattle.std.proofs.lemmas.List.{append-nil, drop_all}

pub drop_found : {X : Type 0} (xs : List X) (i : ℕ) (x : X) → slice_get xs i ≡ Some x → drop i xs ≡ x ∷ drop (i + 1) xs
drop_found [] i x e = absurd cc
drop_found (y ∷ xs) zero x e = let q : y ≡ x = cc in ap (λ z. z ∷ xs) q
drop_found (y ∷ xs) (suc i) x e =
    let k : suc (i + 1) ≡ suc i + 1 = omega arith in
    drop_found xs i x e ∙ (λ j. x ∷ drop (k j) (y ∷ xs))

pub take_found : {X : Type 0} (xs : List X) (i : ℕ) (x : X) → slice_get xs i ≡ Some x → take (i + 1) xs ≡ take i xs ++ x ∷ []
take_found [] i x e = absurd cc
take_found (y ∷ xs) zero x e = let q : y ≡ x = cc in ap (λ z. z ∷ []) q
take_found (y ∷ xs) (suc i) x e =
    let k : suc i + 1 ≡ suc (i + 1) = omega arith in
    ap (λ z. take z (y ∷ xs)) k ∙ ap (λ z. y ∷ z) (take_found xs i x e)

-- what is told, with what the items from a place on tell, is all; one item more is told
module _ {X Y : Type 0} (tells : X → List Y) (all_of : List X → List Y) (cons : (x : X) (xs : List X) → all_of (x ∷ xs) ≡ tells x ++ all_of xs) where
  pub one_told : (xs : List X) (i : ℕ) (x : X) (told told' all : List Y) → slice_get xs i ≡ Some x → told' ≡ told ++ tells x → told ++ all_of (drop i xs) ≡ all → told' ++ all_of (drop (i + 1) xs) ≡ all
  one_told xs i x told told' all e f h =
      ap (λ z. z ++ all_of (drop (i + 1) xs)) f ∙ append_assoc told (tells x) (all_of (drop (i + 1) xs)) ∙ ap (λ z. told ++ z) (sym (cons x (drop (i + 1) xs)) ∙ ap all_of (sym (drop_found xs i x e))) ∙ h

  pub all_told : (none : all_of [] ≡ []) (xs : List X) (i : ℕ) (told all : List Y) → length xs ≤ i → told ++ all_of (drop i xs) ≡ all → told ≡ all
  all_told none xs i told all le h = sym (append-nil told) ∙ ap (λ z. told ++ z) (sym (ap all_of (drop_all i xs le) ∙ none)) ∙ h
