-- Reading a queue by place.
use Rattle.std.proofs.Common.{◌≡◌, ℕ, ◌+◌, ◌<◌, ◌≤◌, Bool, true, List, [], ◌∷◌, ◌++◌, length, get_or, set, take, Some, refl, sym, ◌∙◌, ap, subst, ◌⊎◌, inl, inr, arith, suc, zero}
use Rattle.std.specs.Prelude.{slice_get, Contains}
use Rattle.std.proofs.lemmas.Bool.{cases_lt}
use Rattle.std.proofs.lemmas.List.{length-set, take_more}
use Rattle.std.proofs.lemmas.List.Elements.{Contains-append_left, Contains-push, Contains-push_cases}
use Rattle.ctw_flow.specs.Search.{AreMarks}

pub kept : {X : Type 0} (xs ys : List X) (i : ℕ) (x : X) → slice_get xs i ≡ Some x → slice_get (xs ++ ys) i ≡ Some x
kept [] ys i x h = cc
kept (y ∷ xs) ys zero x h = h
kept (y ∷ xs) ys (suc i) x h = kept xs ys i x h

pub at_end : {X : Type 0} (xs : List X) (x : X) → slice_get (xs ++ x ∷ []) (length xs) ≡ Some x
at_end [] x = refl
at_end (y ∷ xs) x = at_end xs x

pub last_or : {X : Type 0} (xs : List X) (x : X) (i : ℕ) (y : X) → slice_get (xs ++ x ∷ []) i ≡ Some y → (slice_get xs i ≡ Some y) ⊎ ((i ≡ length xs) × (x ≡ y))
last_or [] x zero y h = inr (refl, cc)
last_or [] x (suc i) y h = cc
last_or (z ∷ xs) x zero y h = inl h
last_or (z ∷ xs) x (suc i) y h = go (last_or xs x i y h)
  where
    go : (slice_get xs i ≡ Some y) ⊎ ((i ≡ length xs) × (x ≡ y)) → (slice_get xs i ≡ Some y) ⊎ ((suc i ≡ suc (length xs)) × (x ≡ y))
    go (inl e) = inl e
    go (inr e) = inr (ap suc e.0, e.1)

pub one_at : {X : Type 0} (xs : List X) (i : ℕ) (x y : X) → slice_get xs i ≡ Some x → slice_get xs i ≡ Some y → x ≡ y
one_at xs i x y p q = cc

pub set_here : {X : Type 0} (xs : List X) (k : ℕ) (x : X) → k < length xs → slice_get (set xs k x) k ≡ Some x
set_here [] k x h = absurd (omega arith)
set_here (y ∷ xs) zero x h = refl
set_here (y ∷ xs) (suc k) x h = set_here xs k x (omega arith)

-- a true mark after one more is set: the old one, or the new
pub set_or : (xs : List Bool) (k n : ℕ) → slice_get (set xs k true) n ≡ Some true → (slice_get xs n ≡ Some true) ⊎ (n ≡ k)
set_or [] k n h = inl h
set_or (y ∷ xs) zero zero h = inr refl
set_or (y ∷ xs) zero (suc n) h = inl h
set_or (y ∷ xs) (suc k) zero h = inl h
set_or (y ∷ xs) (suc k) (suc n) h = go (set_or xs k n h)
  where
    go : (slice_get xs n ≡ Some true) ⊎ (n ≡ k) → (slice_get xs n ≡ Some true) ⊎ (suc n ≡ suc k)
    go (inl e) = inl e
    go (inr e) = inr (ap suc e)

pub set_keeps : (xs : List Bool) (k n : ℕ) → slice_get xs n ≡ Some true → slice_get (set xs k true) n ≡ Some true
set_keeps [] k n h = h
set_keeps (y ∷ xs) zero zero h = refl
set_keeps (y ∷ xs) zero (suc n) h = h
set_keeps (y ∷ xs) (suc k) zero h = h
set_keeps (y ∷ xs) (suc k) (suc n) h = set_keeps xs k n h

pub has_cons : {X : Type 0} (y : X) (xs : List X) (x : X) → Contains (y ∷ xs) x → (y ≡ x) ⊎ Contains xs x
has_cons y xs x (zero, l, e) = inl e
has_cons y xs x (suc k, l, e) = inr (k, omega arith, e)

pub has_here : {X : Type 0} (x : X) (xs : List X) → Contains (x ∷ xs) x
has_here x xs = (0, omega arith, refl)

pub has_there : {X : Type 0} (y : X) (xs : List X) (x : X) → Contains xs x → Contains (y ∷ xs) x
has_there y xs x (k, l, e) = (suc k, omega arith, e)

pub has_nil : {X : Type 0} (x : X) → Contains [] x → ⊥
has_nil x (k, l, e) = omega arith

pub lt_or_eq : (a b : ℕ) → a < b + 1 → (a < b) ⊎ (a ≡ b)
lt_or_eq a b h = go (cases_lt a b)
  where
    go : (a < b) ⊎ (b ≤ a) → (a < b) ⊎ (a ≡ b)
    go (inl l) = inl l
    go (inr l) = inr (omega arith)

-- one more start is marked
pub marks_step : (starts : List ℕ) (nodes i d : ℕ) (seen : List Bool) → i < length starts → get_or starts i d < nodes → AreMarks (take i starts) nodes seen → AreMarks (take (i + 1) starts) nodes (set seen (get_or starts i d) true)
marks_step starts nodes i d seen l r m = (length-set seen (get_or starts i d) true ∙ m.0, (λ n. (to n, from n)))
  where
    more : take (i + 1) starts ≡ take i starts ++ get_or starts i d ∷ []
    more = take_more starts i d l

    to : (n : ℕ) → slice_get (set seen (get_or starts i d) true) n ≡ Some true → Contains (take (i + 1) starts) n
    to n h = subst (λ z. Contains z n) (sym more) (go (set_or seen (get_or starts i d) n h))
      where
        go : (slice_get seen n ≡ Some true) ⊎ (n ≡ get_or starts i d) → Contains (take i starts ++ get_or starts i d ∷ []) n
        go (inl a) = Contains-append_left (take i starts) (get_or starts i d ∷ []) n ((m.1 n).0 a)
        go (inr a) = subst (Contains (take i starts ++ get_or starts i d ∷ [])) (sym a) (Contains-push (take i starts) (get_or starts i d))

    from : (n : ℕ) → Contains (take (i + 1) starts) n → slice_get (set seen (get_or starts i d) true) n ≡ Some true
    from n h = go (Contains-push_cases (take i starts) (get_or starts i d) n (subst (λ z. Contains z n) more h))
      where
        go : Contains (take i starts) n ⊎ (get_or starts i d ≡ n) → slice_get (set seen (get_or starts i d) true) n ≡ Some true
        go (inl a) = set_keeps seen (get_or starts i d) n ((m.1 n).1 a)
        go (inr a) = subst (λ z. slice_get (set seen (get_or starts i d) true) z ≡ Some true) a (set_here seen (get_or starts i d) true (let e = m.0 in omega arith))
