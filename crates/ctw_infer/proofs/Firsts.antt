-- The first item of lists that are joined.
use Rattle.std.proofs.Common.{◌≡◌, ℕ, zero, suc, ◌+◌, ◌≤◌, Bool, true, false, if◌then◌else◌, filter, List, [], ◌∷◌, ◌++◌, length, drop, Some, None, slice_get, flat_map, refl, sym, ap, ◌∙◌, arith}
use Rattle.std.specs.Prelude.{◌⊎◌, Contains}
use Rattle.std.proofs.Common.{inl, inr}
use Rattle.std.proofs.lemmas.Option.{none-some}
use Rattle.std.proofs.lemmas.List.Elements.{Contains-push_cases}

pub none_there : {A : Type 0} (xs : List A) → slice_get xs 0 ≡ None → xs ≡ []
none_there [] e = refl
none_there (x ∷ xs) e = absurd (none-some x (sym e))

pub first_behind_none : {A : Type 0} (xs ys : List A) → slice_get xs 0 ≡ None → slice_get (xs ++ ys) 0 ≡ slice_get ys 0
first_behind_none [] ys e = refl
first_behind_none (x ∷ xs) ys e = absurd (none-some x (sym e))

pub first_in_front : {A : Type 0} (xs ys : List A) (x : A) → slice_get xs 0 ≡ Some x → slice_get (xs ++ ys) 0 ≡ Some x
first_in_front [] ys x e = absurd (none-some x e)
first_in_front (y ∷ xs) ys x e = e

pub both_empty : {A : Type 0} (xs ys : List A) → xs ++ ys ≡ [] → (xs ≡ []) × (ys ≡ [])
both_empty [] ys e = (refl, e)
both_empty (x ∷ xs) ys e = absurd cc

drop_next : {A : Type 0} (l : List A) (i : ℕ) (a : A) → slice_get l i ≡ Some a → drop i l ≡ a ∷ drop (suc i) l
drop_next [] i a e = absurd cc
drop_next (b ∷ l) zero a e = let q : b ≡ a = cc in ap (λ x. x ∷ l) q
drop_next (b ∷ l) (suc i) a e = drop_next l i a e

pub drop_there : {A : Type 0} (l : List A) (i : ℕ) (a : A) → slice_get l i ≡ Some a → drop i l ≡ a ∷ drop (i + 1) l
drop_there l i a e =
    let next : suc i ≡ i + 1 = omega arith in
    drop_next l i a e ∙ ap (λ (k : ℕ). a ∷ drop k l) next

pub drop_past : {A : Type 0} (l : List A) (i : ℕ) → length l ≤ i → drop i l ≡ []
drop_past [] zero le = refl
drop_past [] (suc i) le = refl
drop_past (a ∷ l) zero le = absurd (omega (arith, le))
drop_past (a ∷ l) (suc i) le = drop_past l i (omega (arith, le))

-- ---- loops that look for the first item that something brings

-- what is left from a place on has the first one
pub record FirstLeft {A B : Type 0} (g : A → List B) (items : List A) (i : ℕ) : Type 0 where
  pub left : slice_get (flat_map g items) 0 ≡ slice_get (flat_map g (drop i items)) 0

pub left_begins : {A B : Type 0} (g : A → List B) (items : List A) → FirstLeft g items 0
left_begins g items = record { left = refl }

at_place : {A B : Type 0} (g : A → List B) (items : List A) (i : ℕ) (a : A) → slice_get items i ≡ Some a → flat_map g (drop i items) ≡ g a ++ flat_map g (drop (i + 1) items)
at_place g items i a e = ap (flat_map g) (drop_there items i a e)

pub left_on : {A B : Type 0} (g : A → List B) (items : List A) (i : ℕ) (a : A) → slice_get items i ≡ Some a → slice_get (g a) 0 ≡ None → FirstLeft g items i → FirstLeft g items (i + 1)
left_on g items i a e n h = record { left = h.left ∙ ap (λ l. slice_get l 0) (at_place g items i a e) ∙ first_behind_none (g a) (flat_map g (drop (i + 1) items)) n }

pub left_found : {A B : Type 0} (g : A → List B) (items : List A) (i : ℕ) (a : A) (b : B) → slice_get items i ≡ Some a → slice_get (g a) 0 ≡ Some b → FirstLeft g items i → slice_get (flat_map g items) 0 ≡ Some b
left_found g items i a b e f h = h.left ∙ ap (λ l. slice_get l 0) (at_place g items i a e) ∙ first_in_front (g a) (flat_map g (drop (i + 1) items)) b f

pub left_ends : {A B : Type 0} (g : A → List B) (items : List A) (i : ℕ) → length items ≤ i → FirstLeft g items i → slice_get (flat_map g items) 0 ≡ None
left_ends g items i le h = h.left ∙ ap (λ l. slice_get (flat_map g l) 0) (drop_past items i le)

-- ---- the first one that passes a test

pub record PassesLeft {A : Type 0} (test : A → Bool) (items : List A) (i : ℕ) : Type 0 where
  pub left : slice_get (filter test items) 0 ≡ slice_get (filter test (drop i items)) 0

pub passes_begin : {A : Type 0} (test : A → Bool) (items : List A) → PassesLeft test items 0
passes_begin test items = record { left = refl }

kept : {A : Type 0} (test : A → Bool) (items : List A) (i : ℕ) (a : A) (b : Bool) → slice_get items i ≡ Some a → test a ≡ b → filter test (drop i items) ≡ (if b then a ∷ filter test (drop (i + 1) items) else filter test (drop (i + 1) items))
kept test items i a b e t = ap (filter test) (drop_there items i a e) ∙ ap (λ b. if b then a ∷ filter test (drop (i + 1) items) else filter test (drop (i + 1) items)) t

pub passes_on : {A : Type 0} (test : A → Bool) (items : List A) (i : ℕ) (a : A) → slice_get items i ≡ Some a → test a ≡ false → PassesLeft test items i → PassesLeft test items (i + 1)
passes_on test items i a e t h = record { left = h.left ∙ ap (λ l. slice_get l 0) (kept test items i a false e t) }

pub passes_found : {A : Type 0} (test : A → Bool) (items : List A) (i : ℕ) (a : A) → slice_get items i ≡ Some a → test a ≡ true → PassesLeft test items i → slice_get (filter test items) 0 ≡ Some a
passes_found test items i a e t h = h.left ∙ ap (λ l. slice_get l 0) (kept test items i a true e t)

pub passes_end : {A : Type 0} (test : A → Bool) (items : List A) (i : ℕ) → length items ≤ i → PassesLeft test items i → slice_get (filter test items) 0 ≡ None
passes_end test items i le h = h.left ∙ ap (λ l. slice_get (filter test l) 0) (drop_past items i le)

-- ---- one item

pub only : {A : Type 0} (y x : A) → Contains (y ∷ []) x → y ≡ x
only y x c = go (Contains-push_cases [] y x c)
  where
    go : Contains [] x ⊎ (y ≡ x) → y ≡ x
    go (inl n) = absurd (omega (arith, n.1))
    go (inr e) = e
