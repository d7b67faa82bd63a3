-- A list from an index on.
use Rattle.std.proofs.Common.{◌≡◌, ◌<◌, ℕ, zero, suc, ◌+◌, List, [], ◌∷◌, length, drop, get_or, slice_get, Some, ◌∙◌, refl, ap, arith}

pub record Next {A : Type 0} (xs : List A) (i : ℕ) : Type 0 where
  pub item : A
  pub rest : List A
  pub here : drop i xs ≡ item ∷ rest
  pub at : slice_get xs i ≡ Some item
  pub behind : drop (i + 1) xs ≡ rest

-- one item more
on_one : {A : Type 0} (x : A) (xs : List A) (i : ℕ) → drop (suc i + 1) (x ∷ xs) ≡ drop (i + 1) xs
on_one x xs i = let e : suc i + 1 ≡ suc (i + 1) = omega arith in ap (λ z. drop z (x ∷ xs)) e

pub next : {A : Type 0} (xs : List A) (i : ℕ) → i < length xs → Next xs i
next [] i lt = absurd (omega arith)
next (x ∷ xs) zero lt = record { item = x; rest = xs; here = refl; at = refl; behind = refl }
next (x ∷ xs) (suc i) lt =
    let n = next xs i (omega arith) in
    record { item = n.item; rest = n.rest; here = n.here; at = n.at; behind = on_one x xs i ∙ n.behind }

-- what a list has at an index where it is dropped to
pub at_drop : (xs : List ℕ) (i y : ℕ) (ys : List ℕ) → drop i xs ≡ y ∷ ys → (get_or xs i 0 ≡ y) × (slice_get xs i ≡ Some y) × (drop (i + 1) xs ≡ ys)
at_drop [] zero y ys e = absurd cc
at_drop [] (suc i) y ys e = absurd cc
at_drop (x ∷ xs) zero y ys e = let p : x ≡ y = cc in let q : xs ≡ ys = cc in (p, ap Some p, q)
at_drop (x ∷ xs) (suc i) y ys e = let h = at_drop xs i y ys e in (h.0, h.1, on_one x xs i ∙ h.2)

pub item_drop : {A : Type 0} (xs : List A) (i : ℕ) (y : A) (ys : List A) → drop i xs ≡ y ∷ ys → (slice_get xs i ≡ Some y) × (drop (i + 1) xs ≡ ys)
item_drop [] zero y ys e = absurd cc
item_drop [] (suc i) y ys e = absurd cc
item_drop (x ∷ xs) zero y ys e = let p : x ≡ y = cc in let q : xs ≡ ys = cc in (ap Some p, q)
item_drop (x ∷ xs) (suc i) y ys e = let h = item_drop xs i y ys e in (h.0, on_one x xs i ∙ h.1)
