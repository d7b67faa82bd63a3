-- Lists: elements and their places.
use Rattle.std.proofs.Common.{◌≡◌, ◌≤◌, ◌<◌, ℕ, zero, suc, ◌+◌, Bool, true, false, ◌||◌, cond, List, [], ◌∷◌, ◌++◌, length, take, drop, map, get_or, slice_get, Option, Some, None, is_some, option_map, refl, sym, ap, ◌∙◌, add-one, arith}
use denote.Ref.{Bor}
use Rattle.std.specs.Option.{option_copied}
use Rattle.std.specs.Prelude.{find, option_and_then, nat_lt, ltb}
use Rattle.std.specs.List.{list_any, position_from, position_or_len}
use Rattle.std.proofs.lemmas.Bool.Decides.{nat_tests}
use Rattle.std.proofs.lemmas.List.Folds.{find_at}
use Rattle.std.proofs.lemmas.Iterator.Adapters.{position_from-zero}
use Rattle.ctw_link.specs.Resolving.{below}
use Rattle.std.proofs.lemmas.Option.{slice_get-map, slice_get_read, slice_get_past}
use Rattle.ctw_link.specs.Users.{or_later}

-- an element that is read is the one at its place
pub element_at : {A : Type 0} (xs : List A) (i : ℕ) (x : A) → i < length xs → x ≡ get_or xs i x → slice_get xs i ≡ Some x
element_at xs i x lt e = slice_get_read xs (length xs) i x refl lt e

pub mapped_at : {A B : Type 0} (f : A → B) (xs : List A) (i : ℕ) (x : A) → slice_get xs i ≡ Some x → slice_get (map f xs) i ≡ Some (f x)
mapped_at f xs i x e = slice_get-map f xs i ∙ ap (option_map f) e

pub take_next : {A : Type 0} (xs : List A) (i : ℕ) (x : A) → slice_get xs i ≡ Some x → take (i + 1) xs ≡ take i xs ++ x ∷ []
take_next {A} xs i x e = ap (λ (n : ℕ). take n xs) (add-one i) ∙ go xs i e
  where
    go : (xs : List A) (i : ℕ) → slice_get xs i ≡ Some x → take (suc i) xs ≡ take i xs ++ x ∷ []
    go [] i e = absurd cc
    go (y ∷ xs) zero e = let q : y ≡ x = cc in ap (λ (z : A). z ∷ []) q
    go (y ∷ xs) (suc i) e = ap (λ (l : List A). y ∷ l) (go xs i e)

pub drop_next : {A : Type 0} (xs : List A) (i : ℕ) (x : A) → slice_get xs i ≡ Some x → drop i xs ≡ x ∷ drop (i + 1) xs
drop_next {A} xs i x e = go xs i e ∙ ap (λ (n : ℕ). x ∷ drop n xs) (sym (add-one i))
  where
    go : (xs : List A) (i : ℕ) → slice_get xs i ≡ Some x → drop i xs ≡ x ∷ drop (suc i) xs
    go [] i e = absurd cc
    go (y ∷ xs) zero e = let q : y ≡ x = cc in ap (λ (z : A). z ∷ xs) q
    go (y ∷ xs) (suc i) e = go xs i e

pub front_length : {A : Type 0} (xs : List A) (i : ℕ) (x : A) → slice_get xs i ≡ Some x → length (take i xs) ≡ i
front_length [] i x e = absurd cc
front_length (y ∷ xs) zero x e = refl
front_length (y ∷ xs) (suc i) x e = ap suc (front_length xs i x e)

-- behind a front
pub skipped : {A : Type 0} (xs ys : List A) (k n : ℕ) → n ≡ k + length xs → slice_get (xs ++ ys) n ≡ slice_get ys k
skipped {A} [] ys k n e = let q : n ≡ k = omega (arith, e) in ap (λ (m : ℕ). slice_get ys m) q
skipped (x ∷ xs) ys k zero e = absurd (omega (arith, e))
skipped (x ∷ xs) ys k (suc n) e = skipped xs ys k n (omega (arith, e))

pub position_more : {A : Type 0} (t : A → Bool) (k : ℕ) (xs : List A) (x : A) → position_from t k (xs ++ x ∷ []) ≡ or_later (position_from t k xs) (cond (t x) (Some (k + length xs)) None)
position_more t k [] x = let z : k ≡ k + 0 = omega arith in ap (λ (n : ℕ). cond (t x) (Some n) None) z
position_more {A} t k (y ∷ xs) x = go (t y) (position_more t (k + 1) xs x)
  where
    go : (b : Bool) → position_from t (k + 1) (xs ++ x ∷ []) ≡ or_later (position_from t (k + 1) xs) (cond (t x) (Some (k + 1 + length xs)) None)
        → cond b (Some k) (position_from t (k + 1) (xs ++ x ∷ [])) ≡ or_later (cond b (Some k) (position_from t (k + 1) xs)) (cond (t x) (Some (k + suc (length xs))) None)
    go true h = refl
    go false h =
        let n : k + 1 + length xs ≡ k + suc (length xs) = omega arith in
        h ∙ ap (λ (m : ℕ). or_later (position_from t (k + 1) xs) (cond (t x) (Some m) None)) n

pub any_position : {A : Type 0} (t : A → Bool) (k : ℕ) (xs : List A) → list_any t xs ≡ is_some (position_from t k xs)
any_position t k [] = refl
any_position {A} t k (y ∷ xs) = go (t y) (any_position t (k + 1) xs)
  where
    go : (b : Bool) → list_any t xs ≡ is_some (position_from t (k + 1) xs) → (b || list_any t xs) ≡ is_some (cond b (Some k) (position_from t (k + 1) xs))
    go true h = refl
    go false h = h

-- a copied value is there exactly where the lent one is
pub copied_there : {A : Type 0} (o : Option (Bor A)) → is_some (option_copied o) ≡ is_some o
copied_there None = refl
copied_there (Some x) = refl

-- ---- first places

position_past : {A : Type 0} (t : A → Bool) (k n : ℕ) (xs : List A) → n ≤ k → below n (position_from t k xs) ≡ None
position_past t k n [] le = refl
position_past {A} t k n (x ∷ xs) le = go (t x) (position_past t (k + 1) n xs (omega (arith, le)))
  where
    go : (b : Bool) → below n (position_from t (k + 1) xs) ≡ None → below n (cond b (Some k) (position_from t (k + 1) xs)) ≡ None
    go true h = let f : nat_lt k n ≡ false = grind (arith, nat_tests) in ap (λ (c : Bool). cond c (Some k) None) f
    go false h = h

-- the first place in a front is the first of all, if it is there
pub position_front : {A : Type 0} (t : A → Bool) (xs : List A) (n : ℕ) → position_from t 0 (take n xs) ≡ below n (position_from t 0 xs)
position_front {A} t xs n = let z : 0 + n ≡ n = omega arith in go 0 n xs ∙ ap (λ (m : ℕ). below m (position_from t 0 xs)) z
  where
    go : (k n : ℕ) (xs : List A) → position_from t k (take n xs) ≡ below (k + n) (position_from t k xs)
    go k zero xs = sym (position_past t k (k + 0) xs (omega arith))
    go k (suc n) [] = refl
    go k (suc n) (x ∷ xs) = by (t x) (go (k + 1) n xs)
      where
        by : (b : Bool) → position_from t (k + 1) (take n xs) ≡ below (k + 1 + n) (position_from t (k + 1) xs) → cond b (Some k) (position_from t (k + 1) (take n xs)) ≡ below (k + suc n) (cond b (Some k) (position_from t (k + 1) xs))
        by true h = let f : nat_lt k (k + suc n) ≡ true = grind (arith, nat_tests) in sym (ap (λ (c : Bool). cond c (Some k) None) f)
        by false h = let e : k + 1 + n ≡ k + suc n = omega arith in h ∙ ap (λ (m : ℕ). below m (position_from t (k + 1) xs)) e

-- what is found is the element at the first place
pub find_place : {A : Type 0} (t : A → Bool) (xs : List A) → find t xs ≡ option_and_then (slice_get xs) (position_from t 0 xs)
find_place t xs = go (ltb (position_or_len t xs) (length xs)) refl
  where
    go : (b : Bool) → ltb (position_or_len t xs) (length xs) ≡ b → find t xs ≡ option_and_then (slice_get xs) (position_from t 0 xs)
    go true e = find_at t xs ∙ ap (option_and_then (slice_get xs)) (sym (ap (λ (b : Bool). cond b (Some (position_or_len t xs)) None) e) ∙ position_from-zero t xs)
    go false e =
        let past : length xs ≤ position_or_len t xs = grind (arith, nat_tests) in
        find_at t xs ∙ slice_get_past xs (position_or_len t xs) past ∙ ap (option_and_then (slice_get xs)) (sym (ap (λ (b : Bool). cond b (Some (position_or_len t xs)) None) e) ∙ position_from-zero t xs)

pub position_there : {A : Type 0} (t : A → Bool) (xs : List A) (j : ℕ) → position_from t 0 xs ≡ Some j → j < length xs
position_there {A} t xs j e = omega (arith, go 0 xs e)
  where
    go : (k : ℕ) (xs : List A) → position_from t k xs ≡ Some j → j < k + length xs
    go k [] e = absurd cc
    go k (x ∷ xs) e = by (t x) (go (k + 1) xs) e
      where
        by : (b : Bool) → (position_from t (k + 1) xs ≡ Some j → j < k + 1 + length xs) → cond b (Some k) (position_from t (k + 1) xs) ≡ Some j → j < k + suc (length xs)
        by true h e = let q : k ≡ j = cc in omega (arith, q)
        by false h e = omega (arith, h e)

pub position_mapped : {A B : Type 0} (f : A → B) (t : B → Bool) (k : ℕ) (xs : List A) → position_from t k (map f xs) ≡ position_from (λ x. t (f x)) k xs
position_mapped f t k [] = refl
position_mapped f t k (x ∷ xs) = ap (λ (o : Option ℕ). cond (t (f x)) (Some k) o) (position_mapped f t (k + 1) xs)

pub below_there : (n : ℕ) (o : Option ℕ) (j : ℕ) → below n o ≡ Some j → (o ≡ Some j) × (j < n)
below_there n None j e = absurd cc
below_there n (Some k) j e = go (nat_lt k n) refl e
  where
    go : (b : Bool) → nat_lt k n ≡ b → ◌≡◌ {A = Option ℕ} (cond b (Some k) None) (Some j) → ◌≡◌ {A = Option ℕ} (Some k) (Some j) × (j < n)
    go true t q = (q, let e : k ≡ j = cc in grind (arith, nat_tests))
    go false t q = absurd cc
